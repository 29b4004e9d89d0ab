-- `put_front` meets its contract: its fields stand one after another.
use mathlib.Core.List.{append_assoc}
use lib.ListN.{length-append}
use Rattle.file_format.proofs.Lengths.{length_digits}
use Rattle.chart_lists.proofs.Fields.{fields_first, fields_next, fields_done}
use Rattle.writer.specs.Bytes.{triple_bytes, front_bytes}
use Rattle.writer.proofs.put_front.Goals as goal

pub returns : goal.returns
unfolding front_bytes triple_bytes
returns c = let a = fields_first c.put_byte.ensures in
    let b = fields_next a 1 _ (simp (length-append, length_digits)) c.put_quad.ensures in
    let d = fields_next b 5 _ (simp (length-append, length_digits)) c.put_triple.ensures in
    let e = fields_next d 10 _ (simp (length-append, length_digits)) c.put_pair.ensures in
    fields_done _ e (simp append_assoc)
