-- How many families there are: no fewer than the numbers that first fit uses, and at most n exactly where n numbers name every family. Hard: first
-- fit gives a family a number that is at most the count of those before it: all smaller numbers are held among them.
use mathlib.Core.Path.{◌≡◌, refl, sym, ap, ◌∙◌}
use mathlib.Core.Logic.{◌↔◌}
use mathlib.Core.Bool.{Bool, true, false}
use mathlib.Core.List.{List, [], ◌∷◌, map}
use Prim.Native.Nat.{ℕ, ◌+◌, ◌≤◌}
use native.Mathlib.Omega.{arith}
use lib.ListN.{length, length-map}
use borrow.Author.Tests.{leb-true, le-leb}
use Rattle.lists.specs.Lists.{memb, top, up_to}
use Rattle.lists.proofs.Membership.{nth_memb, memb_nth, nth_map, nth_unmap}
use Rattle.lists.proofs.Gather.{length_up_to, up_to_rising, rising_below}
use Rattle.model.specs.Chart.{Chart}
use Rattle.model.specs.Valid.{Valid}
use Rattle.model.specs.Twins.{lowest_twin}
use Rattle.model.specs.Family.{Family, meets, family_number, families, live_pairs, WellFormed}
use Rattle.model.specs.FirstFit.{Placed, held, free, place, first_fit, used_by, board, used}
use Rattle.model.specs.SharingRule.{FamilyNumber}
use Rattle.sharing_plans.specs.SharingPlan.{FamiliesAtMost}
use Rattle.model.specs.Floor.{most_searched, searched}
use Rattle.model.proofs.FirstFit.{free_least}
use Rattle.model.proofs.FamilyList.{families_have, families_are, families_rising}
use Rattle.model.proofs.Twins.{live_itself, pair_twin}
use Rattle.model.proofs.LivePairs.{live_pairs_formed}
use Rattle.model.proofs.FamilyNumbers.{number_unique, family_number_lem, live_family}
use Rattle.sharing_plans.proofs.DifferentNumbers.{few_members}

-- ---- first fit

free_few : (l : List ℕ) → free l ≤ length l
free_few l =
    let n = free l in
    omega (
      arith,
      length_up_to (λ i. i) n,
      few_members n 0 (up_to (λ i. i) n) l (up_to_rising n) (λ x m. free_least l x (rising_below n 0 (up_to (λ i. i) n) (up_to_rising n) x m).1),
    )

held_few : (f : Family) (ps : List Placed) → length (held f ps) ≤ length ps
unfolding held
held_few f [] = omega arith
held_few f (g ∷ ps) = go (meets f g.family) refl (held_few f ps)
  where
    go : (b : Bool) → meets f g.family ≡ b → length (held f ps) ≤ length ps → length (held f (g ∷ ps)) ≤ length (g ∷ ps)
    go true t ih = rw (t, held) (omega arith)
    go false t ih = rw (t, held) (omega arith)

place_few : (fs : List Family) (ps : List Placed) → used_by ps ≤ length ps → used_by (place fs ps) ≤ length fs + length ps
unfolding place used_by top
place_few [] ps h = omega arith
place_few (f ∷ fs) ps h =
    let n = free (held f ps) in
    omega (arith, place_few fs (record { family = f; number = n } ∷ ps) (omega (arith, h, free_few (held f ps), held_few f ps)))

pub used_families : (c : Chart) → used c ≤ length (families (live_pairs c))
unfolding used board first_fit used_by top
used_families c = omega (arith, place_few (families (live_pairs c)) [] (omega arith))

-- ---- the list of families has one entry for each

module _ {W : ℕ} {c : Chart} (valid : Valid W c) where
  pub families_iff : (n : ℕ) → (length (families (live_pairs c)) ≤ n) ↔ FamiliesAtMost n c
  families_iff n = (
    λ h. record { numbers = numbers; few = omega (arith, h, length-map own family_number); named = named },
    λ a. omega (arith, a.few, length-map own family_number, few_members _ 0 numbers a.numbers (families_rising formed) (among a)),
  )
    where
      formed : WellFormed (live_pairs c)
      formed = live_pairs_formed valid

      own : List Family
      own = families (live_pairs c)

      numbers : List ℕ
      numbers = map family_number own

      named : (q j m : ℕ) → FamilyNumber c q j m → memb m numbers ≡ true
      named q j m f =
          let l = f.same.pair in
          let e = families_have formed q (lowest_twin c j) ((pair_twin valid q j).1 l) in
          rw (number_unique f (family_number_lem valid q j l)) (nth_memb numbers e.place (nth_map family_number own e.place e.is_nth))

      among : (a : FamiliesAtMost n c) → (m : ℕ) → memb m numbers ≡ true → memb m a.numbers ≡ true
      among a m h =
          let x = memb_nth numbers m h in
          let y = nth_unmap family_number own x.0 x.1 in
          let o = families_are formed x.0 y.0 y.1 in
          let q = y.0.first in
          let t = live_family valid y.0 o in
          a.named q t.timer m (rw (ap family_number (sym t.whole) ∙ y.2) at (family_number_lem valid q t.timer (live_itself t.live)))

  pub searched_iff : (searched c ≡ true) ↔ FamiliesAtMost most_searched c
  unfolding searched
  searched_iff =
      let x = families_iff most_searched in
      (λ h. x.0 (leb-true _ _ h), λ a. le-leb _ _ (x.1 a))
