-- What the sets of the analysis and used mean: each word is the live set of its location by paths, empty where no path leads to it, and used is 0
-- exactly where no timer is live at a reached location.
use mathlib.Core.Path.{◌≡◌, refl, ◌∙◌}
use mathlib.Core.Logic.{◌↔◌}
use mathlib.Core.Bool.{true}
use Prim.Native.Nat.{ℕ, zero, suc}
use native.Mathlib.Omega.{arith}
use lib.ListN.{get_or}
use Rattle.timer_set.specs.Members.{member}
use Rattle.model.specs.Chart.{Chart}
use Rattle.model.specs.Valid.{Valid}
use Rattle.model.specs.Path.{Live, Reached}
use Rattle.model.specs.Live.{live}
use Rattle.model.specs.Spare.{reached_part}
use Rattle.model.specs.FirstFit.{used}
use Rattle.model.proofs.UsedNumbers.{used_reached}
use Rattle.model.proofs.BoardPlan.{numbering_used, number_live, live_number, number_under}
use Rattle.model.proofs.ReachedPart.{part_valid, part_live, part_live_iff}
use Rattle.analysis.specs.Analysing.{analysed_sets}

module _ {W : ℕ} {c : Chart} (valid : Valid W c) where
  -- the word of location q has the timers that are live at q, if a path reaches q
  pub word_live : (q j : ℕ) → (member (get_or (analysed_sets c) q 0) j ≡ true) ↔ (Reached c q × Live c q j)
  unfolding analysed_sets live
  word_live q j = part_live_iff valid q j

  pub used_none : (used (reached_part c) ≡ 0) ↔ ((q j : ℕ) → Reached c q → Live c q j → ⊥)
  unfolding used
  used_none = (
    λ e q j x l.
        let n = live_number (part_valid valid) q j ((part_live valid q j).1 (x, l)) in
        omega (arith, number_under (reached_part c) q j n.0 n.1, numbering_used (reached_part c), e),
    λ f. none_used f (used (reached_part c)) refl,
  )
    where
      none_used : ((q j : ℕ) → Reached c q → Live c q j → ⊥) → (n : ℕ) → used (reached_part c) ≡ n → used (reached_part c) ≡ 0
      none_used f zero e = e
      none_used f (suc k) e =
          let x = used_reached (part_valid valid) k (numbering_used (reached_part c) ∙ e) in
          let y = (part_live valid x.0 x.1).0 (number_live (part_valid valid) x.0 x.1 k x.2) in
          absurd (f _ _ y.0 y.1)
