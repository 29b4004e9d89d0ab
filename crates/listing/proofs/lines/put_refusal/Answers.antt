-- `put_refusal`: the number, the place and the line feed, one after another.
use mathlib.Core.Path.{◌≡◌, ap, ◌∙◌}
use Prim.Native.Nat.{ℕ, ◌+◌, ◌≤◌}
use native.Mathlib.Omega.{arith}
use lib.ListN.{length}
use Rattle.listing.specs.Text.{decimal, refused_word}
use Rattle.listing.specs.Listing.{refused_text}
use Rattle.listing.proofs.PutBytes.{bytes_next, bytes_more, bytes_as, bytes_long, bytes_below, bytes_room, bytes_cover}
use Rattle.listing.proofs.Parts.{refused_parts, refused_length}
use Rattle.listing.proofs.lines.put_refusal.Goals as goal

-- there is room for the parts
room : {n k : ℕ} → n ≡ k → (p : ℕ) {m : ℕ} → length (refused_text k p) ≤ m → 10 + (length (decimal n) + length (decimal p)) ≤ m
room {k = k} e p h = rw e (omega (arith, h, refused_length k p))

pub put_number-at-requires : goal.put_number-at-requires
put_number-at-requires c = omega (arith, room c.number.ensures c.args.f.place c.requires)

pub slice_bounds-put_number-start : goal.slice_bounds-put_number-start
slice_bounds-put_number-start c = bytes_cover c.put_number-at.ensures

pub slice_bounds-put_number-count : goal.slice_bounds-put_number-count
slice_bounds-put_number-count c = bytes_cover c.put_number-at.ensures

pub put_number-requires : goal.put_number-requires
put_number-requires c = bytes_room c.put_number-at.ensures _ (omega (arith, room c.number.ensures c.args.f.place c.requires))

pub overflow_add-end : goal.overflow_add-end
overflow_add-end c = omega (arith, room c.number.ensures c.args.f.place c.requires)

pub bounds-out-end : goal.bounds-out-end
bounds-out-end c =
    bytes_below (bytes_next c.put_number-at.ensures c.put_number.ensures) (omega (arith, room c.number.ensures c.args.f.place c.requires))

pub overflow_add-result : goal.overflow_add-result
overflow_add-result c = omega (arith, room c.number.ensures c.args.f.place c.requires)

pub returns : goal.returns
unfolding refused_word
returns c =
    let w = bytes_next c.put_number-at.ensures c.put_number.ensures in
    let r = room c.number.ensures c.args.f.place c.requires in
    let place = c.args.f.place in
    bytes_as (bytes_more w 10 (omega (arith, r))) (refused_parts c.number.result place ∙ ap (λ (n : ℕ). refused_text n place) c.number.ensures)

pub shape_of-out : goal.shape_of-out
shape_of-out c = bytes_long (returns c) c.requires
