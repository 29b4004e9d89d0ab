-- `put_entry`: nothing for a cell with no number, else the timer and the number.
use mathlib.Core.Path.{sym}
use native.Mathlib.Omega.{arith}
use Rattle.listing.proofs.Cells.{entry_none, entry_some, entry_size}
use Rattle.listing.proofs.PutBytes.{bytes_none, bytes_next, bytes_as, bytes_room, bytes_cover}
use Rattle.listing.proofs.lines.put_entry.Goals as goal

pub returns-then-number-eq-NO_NUMBER : goal.returns-then-number-eq-NO_NUMBER
returns-then-number-eq-NO_NUMBER c =
    bytes_as (bytes_none c.args.out.now) (sym (entry_none c.args.j c.args.number c.if-number-eq-NO_NUMBER.true))

pub put_number-at-requires : goal.put_number-at-requires
put_number-at-requires c = omega (arith, c.requires, entry_size c.args.j c.args.number c.if-number-eq-NO_NUMBER.false)

pub slice_bounds-put_number-start : goal.slice_bounds-put_number-start
slice_bounds-put_number-start c = bytes_cover c.put_number-at.ensures

pub slice_bounds-put_number-count : goal.slice_bounds-put_number-count
slice_bounds-put_number-count c = bytes_cover c.put_number-at.ensures

pub put_number-requires : goal.put_number-requires
put_number-requires c =
    bytes_room c.put_number-at.ensures _ (omega (arith, c.requires, entry_size c.args.j c.args.number c.if-number-eq-NO_NUMBER.false))

pub overflow_add-result : goal.overflow_add-result
overflow_add-result c = omega (arith, c.requires, entry_size c.args.j c.args.number c.if-number-eq-NO_NUMBER.false)

pub returns : goal.returns
returns c = bytes_as (bytes_next c.put_number-at.ensures c.put_number.ensures) (entry_some c.args.j c.args.number c.if-number-eq-NO_NUMBER.false)
