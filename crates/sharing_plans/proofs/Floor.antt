-- What the floor is: at most used, at least the count of every live set with twins counted once, with at most 20 families the fewest timers of any
-- plan, with more the fullest such count.
use mathlib.Core.Path.{◌≡◌, sym, subst}
use mathlib.Core.Logic.{◌⊎◌, inl, inr}
use mathlib.Core.Bool.{true, false}
use Prim.Native.Nat.{ℕ, ◌≤◌, ◌<◌}
use native.Mathlib.Omega.{arith}
use lib.Count.{ones}
use lib.ListN.{get_or}
use Rattle.lists.proofs.Bools.{yes_or_no}
use Rattle.model.specs.Chart.{Chart}
use Rattle.model.specs.Valid.{Valid}
use Rattle.model.specs.Live.{fullest}
use Rattle.model.specs.Twins.{merged_sets}
use Rattle.model.specs.Family.{families, live_pairs}
use Rattle.model.specs.FirstFit.{used}
use Rattle.model.specs.Rewrite.{board_numbering}
use Rattle.model.specs.SmallestPlan.{fewest}
use Rattle.model.specs.Floor.{searched, floor}
use Rattle.sharing_plans.specs.SharingPlan.{FewestTimers}
use Rattle.model.proofs.BoardPlan.{numbering_used}
use Rattle.model.proofs.Twins.{merged_each}
use Rattle.sharing_plans.proofs.ChartPlans.{fewest_timers, first_fit_plan}
use Rattle.sharing_plans.proofs.Fullest.{fullest_most, fullest_least, fullest_reached, plan_holds_live}

pub floor_searched : (c : Chart) → searched c ≡ true → floor c ≡ fewest (families (live_pairs c))
unfolding floor
floor_searched c h = rw (h, floor)

-- with more families it is the figure of document 01, twins counted once
pub floor_unsearched : (c : Chart) → searched c ≡ false → floor c ≡ fullest (merged_sets c)
unfolding floor
floor_unsearched c h = rw (h, floor)

module _ {W : ℕ} {c : Chart} (valid : Valid W c) where
  pub fullest_fewest : fullest (merged_sets c) ≤ fewest (families (live_pairs c))
  fullest_fewest =
      let x = fewest_timers valid in
      fullest_least _ (merged_sets c) (λ q h. omega (arith, plan_holds_live valid x.plan q, x.used_is))

  pub fewest_used : fewest (families (live_pairs c)) ≤ used c
  unfolding used
  fewest_used = rw (← numbering_used c) ((fewest_timers valid).least (board_numbering c) (first_fit_plan valid))

  pub floor_used : floor c ≤ used c
  floor_used = go (yes_or_no (searched c))
    where
      go : (searched c ≡ true) ⊎ (searched c ≡ false) → floor c ≤ used c
      go (inl h) = omega (arith, floor_searched c h, fewest_used)
      go (inr h) = omega (arith, floor_unsearched c h, fullest_fewest, fewest_used)

  pub floor_most : (q : ℕ) → ones (get_or (merged_sets c) q 0) ≤ floor c
  floor_most q = go (yes_or_no (searched c))
    where
      go : (searched c ≡ true) ⊎ (searched c ≡ false) → ones (get_or (merged_sets c) q 0) ≤ floor c
      go (inl h) = omega (arith, floor_searched c h, fullest_fewest, fullest_most (merged_sets c) q)
      go (inr h) = omega (arith, floor_unsearched c h, fullest_most (merged_sets c) q)

  -- it is no smaller than that figure, and the same where first fit uses no more
  pub floor_before_lem : fullest (merged_sets c) ≤ floor c
  floor_before_lem = fullest_least (floor c) (merged_sets c) (λ q h. floor_most q)

  pub floor_same : used c ≤ fullest (merged_sets c) → floor c ≡ fullest (merged_sets c)
  floor_same h = omega (arith, floor_before_lem, floor_used)

  -- with at most 20 families it is the fewest timers of any plan
  pub floor_fewest : searched c ≡ true → FewestTimers c (floor c)
  floor_fewest h = subst (FewestTimers c) (sym (floor_searched c h)) (fewest_timers valid)

  -- with more it is the count of a live set, twins counted once, the fullest
  pub floor_reached : searched c ≡ false → (q : ℕ) × (q < c.locations) × (ones (get_or (merged_sets c) q 0) ≡ floor c)
  floor_reached h =
      let x = fullest_reached (merged_sets c) (omega (arith, merged_each c, valid.some_location)) in
      (x.0, omega (arith, x.1, merged_each c), omega (arith, x.2, floor_unsearched c h))
