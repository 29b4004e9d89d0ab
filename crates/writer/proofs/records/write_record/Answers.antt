-- `write_record` meets its contract: head, started timers, number of tests and tests one after another. What is hard is where each begins: that
-- depends on the number of started timers.
use mathlib.Core.Path.{sym}
use native.Mathlib.Omega.{arith}
use borrow.Author.Rules.{rules}
use Rattle.chart_lists.proofs.Fields.{fields_first, fields_next, fields_done}
use Rattle.writer.proofs.FieldBytes.{length_head, length_started, length_numbered, record_parts}
use Rattle.writer.proofs.TimersLeft.{counted}
use Rattle.writer.proofs.records.write_record.Goals as goal

pub returns : goal.returns
returns c =
    let s = (counted _ c.count-s.ensures (search rules)).0 in
    let a = fields_next (fields_first c.put_head.ensures) 8 _ (sym (length_head _ _ _ _ _ _)) c.put_starts.ensures in
    let b = fields_next a _ _ (length_started _ _ _ _ _ _ _ s) c.put_byte.ensures in
    let d = fields_next b _ _ (length_numbered _ _ _ _ _ _ _ s) c.put_tests.ensures in
    record { size = rw c.width_of.ensures (omega (arith, s)); written = fields_done _ d (record_parts _ _ _ _ _ _ _ s _ _) }
