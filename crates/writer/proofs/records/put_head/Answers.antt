-- `put_head` meets its contract: its fields stand one after another, the length of the record by the version.
use mathlib.Core.List.{append_assoc}
use native.Mathlib.Omega.{arith}
use lib.ListN.{length-append}
use borrow.Author.Rules.{rules}
use Rattle.model.proofs.Versions.{tests_most}
use Rattle.file_format.specs.Body.{record_length}
use Rattle.file_format.proofs.Lengths.{length_digits}
use Rattle.chart_lists.proofs.Fields.{fields_first, fields_next, fields_done}
use Rattle.writer.specs.Bytes.{triple_bytes, head_bytes}
use Rattle.writer.proofs.records.put_head.Goals as goal

pub overflow_add-length-2 : goal.overflow_add-length-2
overflow_add-length-2 c =
    let few = tests_most _ c.args.g 255 c.width_of-width.ensures (search rules) in
    omega (arith, few.1)

pub overflow_mul-length : goal.overflow_mul-length
overflow_mul-length c =
    let few = tests_most _ c.args.g 255 c.width_of-width.ensures (search rules) in
    omega (arith, few.0)

pub overflow_add-length-3 : goal.overflow_add-length-3
overflow_add-length-3 c =
    let few = tests_most _ c.args.g 255 c.width_of-width.ensures (search rules) in
    omega (arith, few.0)

pub overflow_cast-length-3 : goal.overflow_cast-length-3
overflow_cast-length-3 c =
    let few = tests_most _ c.args.g 255 c.width_of-width.ensures (search rules) in
    omega (arith, few.0)

pub returns : goal.returns
unfolding head_bytes record_length triple_bytes
returns c =
    let a = fields_first (rw c.width_of-width.ensures at c.put_pair.ensures) in
    let b = fields_next a 2 _ (simp (length-append, length_digits)) c.put_triple.ensures in
    let d = fields_next b 7 _ (simp (length-append, length_digits)) c.put_byte.ensures in
    fields_done _ d (simp append_assoc)
