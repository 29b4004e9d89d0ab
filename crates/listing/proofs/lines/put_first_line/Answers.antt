-- `put_first_line`: the three numbers and the line feed, one after another.
use mathlib.Core.Path.{◌≡◌, ◌∙◌}
use mathlib.Core.List.{◌++◌}
use Prim.Native.Nat.{ℕ, ◌+◌, ◌≤◌}
use native.Mathlib.Omega.{arith}
use lib.ListN.{length, length-append}
use Rattle.numbering.specs.declared.FileNumbers.{FileNumbers}
use Rattle.listing.specs.Text.{decimal, used_word, limit_word}
use Rattle.listing.specs.Listing.{word_of, first_line}
use Rattle.listing.proofs.PutBytes.{bytes_next, bytes_more, bytes_as, bytes_long, bytes_below, bytes_room, bytes_cover}
use Rattle.listing.proofs.Parts.{first_parts, first_length}
use Rattle.listing.proofs.lines.put_first_line.Goals as goal

-- there is room for the parts, and after two of them for the third
module _ (x : FileNumbers) (k : ℕ) {n : ℕ} (h : length (first_line x.used x.floor x.searched k) ≤ n) where
  room : 13 + (length (decimal x.used) + (length (word_of x.searched) + (length (decimal x.floor) + length (decimal k)))) ≤ n
  room = omega (arith, h, first_length x.used x.floor x.searched k)

  rest : {a b : ℕ} → a ≡ length (used_word ++ decimal x.used) → b ≡ length (word_of x.searched ++ decimal x.floor)
      → a + b + (8 + length (decimal k)) ≤ n
  unfolding used_word
  rest y z =
      omega (arith, room, y ∙ length-append used_word (decimal x.used), z ∙ length-append (word_of x.searched) (decimal x.floor))

pub put_number-at-requires : goal.put_number-at-requires
put_number-at-requires c = omega (arith, room c.args.numbers c.args.limit c.requires)

pub slice_bounds-put_floor-start : goal.slice_bounds-put_floor-start
slice_bounds-put_floor-start c = bytes_cover c.put_number-at.ensures

pub slice_bounds-put_floor-count : goal.slice_bounds-put_floor-count
slice_bounds-put_floor-count c = bytes_cover c.put_number-at.ensures

pub put_floor-requires : goal.put_floor-requires
put_floor-requires c =
    bytes_room c.put_number-at.ensures _ (omega (arith, room c.args.numbers c.args.limit c.requires))

pub overflow_add-next : goal.overflow_add-next
unfolding used_word
overflow_add-next c =
    let r = rest c.args.numbers c.args.limit c.requires c.put_number-at.ensures.size_is c.put_floor.ensures.size_is in
    omega (arith, r)

pub slice_bounds-put_number-start : goal.slice_bounds-put_number-start
unfolding used_word
slice_bounds-put_number-start c = bytes_cover (bytes_next c.put_number-at.ensures c.put_floor.ensures)

pub slice_bounds-put_number-count : goal.slice_bounds-put_number-count
unfolding used_word
slice_bounds-put_number-count c = bytes_cover (bytes_next c.put_number-at.ensures c.put_floor.ensures)

pub put_number-requires : goal.put_number-requires
unfolding used_word
put_number-requires c =
    let r = rest c.args.numbers c.args.limit c.requires c.put_number-at.ensures.size_is c.put_floor.ensures.size_is in
    bytes_room (bytes_next c.put_number-at.ensures c.put_floor.ensures) (7 + length (decimal c.args.limit)) (omega (arith, r))

pub overflow_add-end : goal.overflow_add-end
unfolding used_word
overflow_add-end c =
    let r = rest c.args.numbers c.args.limit c.requires c.put_number-at.ensures.size_is c.put_floor.ensures.size_is in
    omega (arith, r)

pub bounds-out-end : goal.bounds-out-end
unfolding used_word
bounds-out-end c =
    let r = rest c.args.numbers c.args.limit c.requires c.put_number-at.ensures.size_is c.put_floor.ensures.size_is in
    bytes_below (bytes_next (bytes_next c.put_number-at.ensures c.put_floor.ensures) c.put_number.ensures) (omega (arith, r))

pub overflow_add-result : goal.overflow_add-result
unfolding used_word
overflow_add-result c =
    let r = rest c.args.numbers c.args.limit c.requires c.put_number-at.ensures.size_is c.put_floor.ensures.size_is in
    omega (arith, r)

pub returns : goal.returns
unfolding limit_word used_word
returns c =
    let w = bytes_next (bytes_next c.put_number-at.ensures c.put_floor.ensures) c.put_number.ensures in
    let r = rest c.args.numbers c.args.limit c.requires c.put_number-at.ensures.size_is c.put_floor.ensures.size_is in
    bytes_as (bytes_more w 10 (omega (arith, r))) (first_parts c.args.numbers.used c.args.numbers.floor c.args.numbers.searched c.args.limit)

pub shape_of-out : goal.shape_of-out
shape_of-out c = bytes_long (returns c) c.requires
