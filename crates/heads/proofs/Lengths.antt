-- A part of a list is what lies between its two ends, both cut where the list ends.
use mathlib.Core.Path.{◌≡◌, sym, ap, ◌∙◌}
use mathlib.Core.Logic.{◌⊎◌, inl, inr}
use mathlib.Core.List.{List}
use Prim.Native.Nat.{ℕ, ◌+◌, ◌-◌, ◌≤◌, ◌<◌, min}
use native.Mathlib.Omega.{arith}
use lib.ListN.{length, get_or, take, drop, length-drop, drop_of_length-le}
use lib.Seq.{take_all}
use Rattle.lists.proofs.Bools.{lt_or_le}
use Rattle.controller_model.specs.Parts.{stretch, offset, part_of}

pub part_between : {A : Type 0} (lengths : List ℕ) (h : ℕ) (l : List A) {b e : ℕ} → b ≡ min (offset lengths h) (length l)
    → e ≡ min (b + get_or lengths h 0) (length l) → take (e - b) (drop b l) ≡ part_of lengths h l
unfolding part_of stretch
part_between {A} lengths h l {b} {e} p q =
    go (lt_or_le (b + get_or lengths h 0) (length l)) ∙ ap (take (get_or lengths h 0)) (begins (lt_or_le b (length l)))
  where
    go : (b + get_or lengths h 0 < length l) ⊎ (length l ≤ b + get_or lengths h 0) → take (e - b) (drop b l) ≡ take (get_or lengths h 0) (drop b l)
    go (inl x) = let s : e - b ≡ get_or lengths h 0 = omega arith in ap (λ (k : ℕ). take k (drop b l)) s
    go (inr x) =
        take_all (e - b) (drop b l) (omega (arith, length-drop b l))
        ∙ sym (take_all (get_or lengths h 0) (drop b l) (omega (arith, length-drop b l)))

    begins : (b < length l) ⊎ (length l ≤ b) → drop b l ≡ drop (offset lengths h) l
    begins (inl x) = let s : b ≡ offset lengths h = omega arith in ap (λ (k : ℕ). drop k l) s
    begins (inr x) = drop_of_length-le l x ∙ sym (drop_of_length-le l {i = offset lengths h} (omega arith))
