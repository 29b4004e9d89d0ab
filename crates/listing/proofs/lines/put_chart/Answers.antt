-- `put_chart`: the first line, then the lines of the locations.
use mathlib.Core.List.{List, ◌++◌}
use Prim.Native.Nat.{ℕ, ◌+◌, ◌≤◌}
use native.Mathlib.Omega.{arith}
use lib.ListN.{length, length-append}
use Rattle.listing.specs.Listing.{first_line}
use Rattle.listing.specs.Cells.{lines_in}
use Rattle.listing.proofs.PutBytes.{bytes_next, bytes_room, bytes_cover}
use Rattle.listing.proofs.lines.put_chart.Goals as goal

-- there is room for both parts
room : (a b : List ℕ) {n : ℕ} → length (a ++ b) ≤ n → length a + length b ≤ n
room a b h = omega (arith, h, length-append a b)

pub put_first_line-at-requires : goal.put_first_line-at-requires
put_first_line-at-requires c =
    let first = first_line c.args.numbers.used c.args.numbers.floor c.args.numbers.searched c.args.limit in
    let r = room first (lines_in c.args.cells.now c.args.numbers.header.timers c.args.numbers.header.locations) c.requires.3 in
    omega (arith, r)

pub slice_bounds-put_lines-start : goal.slice_bounds-put_lines-start
slice_bounds-put_lines-start c = bytes_cover c.put_first_line-at.ensures

pub slice_bounds-put_lines-count : goal.slice_bounds-put_lines-count
slice_bounds-put_lines-count c = bytes_cover c.put_first_line-at.ensures

pub put_lines-requires : goal.put_lines-requires
put_lines-requires c =
    let first = first_line c.args.numbers.used c.args.numbers.floor c.args.numbers.searched c.args.limit in
    let r = room first (lines_in c.args.cells.now c.args.numbers.header.timers c.args.numbers.header.locations) c.requires.3 in (
      c.requires.0,
      c.requires.1,
      c.requires.2,
      bytes_room c.put_first_line-at.ensures _ (omega (arith, r, c.put_first_line-at.ensures.size_is)),
    )

pub overflow_add-result : goal.overflow_add-result
overflow_add-result c =
    let first = first_line c.args.numbers.used c.args.numbers.floor c.args.numbers.searched c.args.limit in
    let r = room first (lines_in c.args.cells.now c.args.numbers.header.timers c.args.numbers.header.locations) c.requires.3 in
    omega (arith, r, c.put_first_line-at.ensures.size_is, c.put_lines.ensures.size_is)

pub returns : goal.returns
returns c = bytes_next c.put_first_line-at.ensures c.put_lines.ensures
