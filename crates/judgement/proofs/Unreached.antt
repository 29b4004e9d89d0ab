-- A timer that a chart does not have is started nowhere: it is unstarted at the reached locations, and only there.
use mathlib.Core.Path.{◌≡◌, ◌∙◌}
use mathlib.Core.Bool.{false}
use mathlib.Core.List.{List, [], ◌∷◌}
use Prim.Native.Nat.{ℕ, ◌≤◌, ◌<◌}
use native.Mathlib.Omega.{arith}
use lib.ListN.{length, get_or}
use Rattle.lists.specs.Lists.{lowest}
use Rattle.lists.proofs.Bools.{same_bool, is_no, is_yes, not_both}
use Rattle.lists.proofs.Gather.{rising_below}
use Rattle.lists.proofs.Lowest.{lowest_same}
use Rattle.model.specs.Chart.{Chart}
use Rattle.model.specs.Valid.{Valid}
use Rattle.model.specs.Path.{StartsNowhere, Reached}
use Rattle.model.specs.Live.{unstarted_flow, unstarted_sets, reached_sets, is_empty, first_unreached}
use Rattle.model.proofs.Transitions.{nth_valid}
use Rattle.model.proofs.Paths.{unstarted_reached}
use Rattle.model.proofs.Settled.{settled_words}
use Rattle.forward.proofs.ChartSets.{length_unstarted}
use Rattle.model.proofs.Forward.{member_filled, filled_member, unstarted_shaped, unstarted_iff, reached_iff}

module _ {W : ℕ} {c : Chart} (valid : Valid W c) where
  starts_nowhere : (j : ℕ) → c.timers ≤ j → (p : List ℕ) → StartsNowhere c j p
  starts_nowhere j h [] = tt
  starts_nowhere j h (i ∷ p) =
      ((λ r n. is_no _ (λ m. omega (arith, h, (rising_below c.timers 0 r.starts (nth_valid valid n).starts j m).1))), starts_nowhere j h p)

  module _ (few : c.timers < 64) where
    same_empty : (q : ℕ) → q < c.locations → is_empty (get_or (unstarted_sets c) q 0) ≡ is_empty (get_or (reached_sets c) q 0)
    unfolding unstarted_sets
    same_empty q l = same_bool _ _
        (λ e. is_yes _ (λ f. not_both e (filled ((reached_iff valid q l).0 f))))
        (λ e. is_yes _ (λ f. not_both e ((reached_iff valid q l).1 (reached f))))
      where
        reached : is_empty (get_or (unstarted_sets c) q 0) ≡ false → Reached c q
        reached f =
            let x = filled_member (get_or (unstarted_sets c) q 0) (settled_words (unstarted_flow c) (unstarted_shaped valid) q) f in
            unstarted_reached ((unstarted_iff valid q x.0 l x.1).0 x.2)

        filled : Reached c q → is_empty (get_or (unstarted_sets c) q 0) ≡ false
        filled r =
            member_filled (get_or (unstarted_sets c) q 0) 63
            ((unstarted_iff valid q 63 l (omega arith)).1
            (record { path = r.path; leads = r.leads; nowhere = starts_nowhere 63 (omega arith) r.path }))

    pub unreached_by : {sets : List ℕ} {r : ℕ} → sets ≡ unstarted_sets c → r ≡ lowest (λ q. is_empty (get_or sets q 0)) (length sets)
        → r ≡ first_unreached c
    unfolding first_unreached
    unreached_by e f = (rw (e, length_unstarted c) at f) ∙ lowest_same _ _ c.locations same_empty
