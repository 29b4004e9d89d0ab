-- The lowest timer of a set, and the set without it. Hard: that w and w - 1 have all members of w in common but the lowest, by induction over its
-- place: below it the borrow runs through digits 0.
use mathlib.Core.Path.{◌≡◌, refl, sym, ap, ◌∙◌}
use mathlib.Core.Bool.{Bool, true, false, ◌&&◌, not, and_self, and-true, and-false}
use Prim.Native.Nat.{ℕ, zero, suc, ◌-◌, ◌/◌, ◌%◌, ◌^◌, ◌<◌}
use native.Mathlib.Omega.{arith}
use lib.Bits.{bit_and, and_le_l, and_le_r}
use lib.Count.{count_trailing_zeros}
use lib.Dec.{eqb, eqb-suc-suc, eqb-suc-zero}
use borrow.Author.Tests.{eqb-true, eq-eqb}
use Rattle.lists.proofs.Bools.{not_both, eqb_self}
use Rattle.lists.proofs.Lowest.{lowest_most, lowest_passes, lowest_before}
use Rattle.timer_set.specs.Members.{member, removed, lowest_member}
use Rattle.timer_set.specs.Iteration.{Taken}
use Rattle.timer_set.proofs.Digits.{member_zero, member_suc, member_and}
use Rattle.timer_set.proofs.Members.{member_empty, member_removed, member_ext, some_member, none_empty, removed_lt}
use Rattle.timer_set.proofs.Counts.{trailing_lowest}

-- where i is the lowest member of w, the members of w that w - 1 has too are the others
member_less : (i w j : ℕ) → member w i ≡ true → ((k : ℕ) → k < i → member w k ≡ false)
    → (member w j && member (w - 1) j) ≡ (member w j && not (eqb j i))
member_less zero w zero m f =
    let odd : w % 2 ≡ 1 = eqb-true _ _ (sym (member_zero w) ∙ m) in
    let even : (w - 1) % 2 ≡ 0 = omega arith in
    rw (member_zero (w - 1), even)
member_less zero w (suc j) m f =
    let odd : w % 2 ≡ 1 = eqb-true _ _ (sym (member_zero w) ∙ m) in
    let half : (w - 1) / 2 ≡ w / 2 = omega arith in
    rw (member_suc w j, member_suc (w - 1) j, half, eqb-suc-zero j) (and_self (member (w / 2) j) ∙ sym (and-true _))
member_less (suc i) w zero m f = rw (f 0 (omega arith))
member_less (suc i) w (suc j) m f =
    let even : w % 2 ≡ 1 → ⊥ = λ o. not_both (member_zero w ∙ eq-eqb _ _ o) (f 0 (omega arith)) in
    let half : (w - 1) / 2 ≡ w / 2 - 1 = omega arith in
    let lower : (k : ℕ) → k < i → member (w / 2) k ≡ false = λ k l. sym (member_suc w k) ∙ f (suc k) (omega arith) in
    rw (member_suc w j, member_suc (w - 1) j, half, eqb-suc-suc j i) (member_less i (w / 2) j (sym (member_suc w i) ∙ m) lower)

module _ (w : ℕ) (h : w < 2 ^ 64) (some : w ≡ 0 → ⊥) where
  pub lowest_below : lowest_member w < 64
  unfolding lowest_member
  lowest_below = let m = some_member 64 w h some in omega (arith, lowest_most (member w) 64 m.0 m.2, m.1)

  pub lowest_member_lem : member w (lowest_member w) ≡ true
  unfolding lowest_member
  lowest_member_lem = lowest_passes (member w) 64 lowest_below

  pub machine_without_lowest : bit_and w (w - 1) ≡ removed w (lowest_member w)
  unfolding lowest_member
  machine_without_lowest = member_ext 64 _ _ (omega (arith, and_le_l w (w - 1))) (removed_lt 64 w (lowest_member w) h) (λ j l. same j)
    where
      less : (j : ℕ) → (member w j && member (w - 1) j) ≡ (member w j && not (eqb j (lowest_member w)))
      less j = member_less (lowest_member w) w j lowest_member_lem (λ k q. lowest_before (member w) 64 k q)

      same : (j : ℕ) → member (bit_and w (w - 1)) j ≡ member (removed w (lowest_member w)) j
      same j = member_and w (w - 1) j ∙ less j ∙ sym (member_removed w (lowest_member w) j)

  -- it is then a smaller number
  pub without_less : removed w (lowest_member w) < w
  without_less = omega (arith, sym machine_without_lowest, and_le_r w (w - 1))

  -- so it is taken from the set
  pub taken_lowest : Taken w (lowest_member w) (removed w (lowest_member w))
  taken_lowest = record { lowest = refl; below = lowest_below; is_member = lowest_member_lem; left_is = refl; fewer = without_less }

pub none_without : (i : ℕ) → 0 ≡ removed 0 i
none_without i = sym (none_empty 64 (removed 0 i) (removed_lt 64 0 i (omega arith)) (λ j l. none j))
  where
    none : (j : ℕ) → member (removed 0 i) j ≡ false
    none j = member_removed 0 i j ∙ ap (λ (b : Bool). b && not (eqb j i)) (member_empty j)

pub machine_lowest : (w : ℕ) → count_trailing_zeros 64 w ≡ lowest_member w
unfolding lowest_member
machine_lowest w = trailing_lowest 64 w

pub removed_gone : (w i : ℕ) → member (removed w i) i ≡ false
removed_gone w i = member_removed w i i ∙ ap (λ (b : Bool). member w i && not b) (eqb_self i) ∙ and-false (member w i)
