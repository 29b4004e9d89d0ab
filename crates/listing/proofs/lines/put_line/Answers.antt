-- `put_line`: the location, its entries and the line feed, one after another.
use mathlib.Core.List.{List}
use Prim.Native.Nat.{ℕ, ◌+◌, ◌*◌, ◌≤◌}
use native.Mathlib.Omega.{arith}
use lib.ListN.{length}
use Rattle.listing.specs.Text.{decimal, at_word}
use Rattle.listing.specs.Cells.{entries_in, line_in}
use Rattle.listing.proofs.PutBytes.{bytes_next, bytes_more, bytes_as, bytes_long, bytes_below, bytes_room, bytes_cover}
use Rattle.listing.proofs.Parts.{line_parts, line_length}
use Rattle.listing.proofs.lines.put_line.Goals as goal

-- there is room for the parts
room : (cells : List ℕ) (timers q : ℕ) {n : ℕ} → length (line_in cells timers q) ≤ n
    → 4 + (length (decimal q) + length (entries_in cells (64 * q) timers)) ≤ n
room cells timers q h = omega (arith, h, line_length cells timers q)

pub put_number-at-requires : goal.put_number-at-requires
put_number-at-requires c = omega (arith, room c.args.cells.now c.args.timers c.args.q c.requires.2)

pub slice_bounds-put_entries-start : goal.slice_bounds-put_entries-start
slice_bounds-put_entries-start c = bytes_cover c.put_number-at.ensures

pub slice_bounds-put_entries-count : goal.slice_bounds-put_entries-count
slice_bounds-put_entries-count c = bytes_cover c.put_number-at.ensures

pub put_entries-requires : goal.put_entries-requires
put_entries-requires c = (
  c.requires.0,
  bytes_room c.put_number-at.ensures _ (omega (arith, room c.args.cells.now c.args.timers c.args.q c.requires.2)),
)

pub overflow_add-last : goal.overflow_add-last
overflow_add-last c = omega (arith, room c.args.cells.now c.args.timers c.args.q c.requires.2)

pub bounds-out-last : goal.bounds-out-last
bounds-out-last c =
    bytes_below (bytes_next c.put_number-at.ensures c.put_entries.ensures) (omega (arith, room c.args.cells.now c.args.timers c.args.q c.requires.2))

pub overflow_add-result : goal.overflow_add-result
overflow_add-result c = omega (arith, room c.args.cells.now c.args.timers c.args.q c.requires.2)

pub returns : goal.returns
unfolding at_word
returns c =
    let w = bytes_next c.put_number-at.ensures c.put_entries.ensures in
    let r = room c.args.cells.now c.args.timers c.args.q c.requires.2 in
    bytes_as (bytes_more w 10 (omega (arith, r))) (line_parts c.args.cells.now c.args.timers c.args.q)

pub shape_of-out : goal.shape_of-out
shape_of-out c = bytes_long (returns c) c.requires.2
