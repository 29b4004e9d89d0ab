-- The laws of twins by charts: B has none, and its results are as before; two charts have some, and theirs are not; a timer that is no longer
-- live shows its count through its twin; and a transition that leaves a spare location tells no twins apart. Nothing is hard: what the definitions
-- compute is put to the laws. Assumes nothing.
use mathlib.Core.Path.{◌≡◌, refl, sym, ap, subst}
use mathlib.Core.Bool.{true≢false, xor}
use mathlib.Core.Option.{none}
use mathlib.Core.List.{[], ◌∷◌}
use Prim.Native.Nat.{ℕ, zero, suc}
use native.Mathlib.Omega.{arith}
use lib.Count.{ones, ones_in}
use Rattle.timer_set.specs.Members.{member, joined, common, minus, added, every_timer, set_of, members, image}
use Rattle.comparison.specs.Comparison.{met}
use Rattle.lists.specs.Lists.{memb, any_of, filtered, first_of, lowest, gather, up_to, pick, top}
use Rattle.model.specs.Chart.{tested}
use Rattle.model.specs.Version.{in_version, allows_spare}
use Rattle.model.specs.Path.{ReadAt}
use Rattle.model.specs.Flow.{brings, made, round, rounds_of, same_sets, changing, settled}
use Rattle.model.specs.Live.{starts_set, tests_set, at_initial, live_flow, unstarted_flow, reached_flow}
use Rattle.model.specs.Live.{live_sets, unstarted_sets, reached_sets, is_empty, first_unreached, first_unstarted}
use Rattle.model.specs.Spare.{leaves_reached, reached_part}
use Rattle.model.specs.Run.{Counts, State, grown, restarted, all_met, after, enabled, attempt, steps, begin, outcome, every_time, waited}
use Rattle.model.specs.Player.{steps_of}
use Rattle.model.specs.Twins.{Twins, in_same_sets, lowest_in_same, lowest_twin, merged_sets}
use Rattle.model.specs.Family.{is_pair, live_pairs, family_number, link_flow, family_of, family_from, families, meets}
use Rattle.model.specs.FirstFit.{held, free, place, first_fit, used_by, number_at, board, used}
use Rattle.model.specs.SmallestPlan.{placings, meeting_differ, planned, fewest}
use Rattle.model.specs.Floor.{searched, floor}
use Rattle.model.specs.Rewrite.{numbering, through, board_numbering, rewritten}
use Rattle.model.specs.Judge.{judged, fitted}
use Rattle.model.specs.Cases.{arrow, on_event, test, drawn, B, started_together, lowest_untested, with_spare, board_numbers}
use Rattle.model.specs.Examples.{two_steps}
use Rattle.twin_laws.specs.InRuns.{ShownAtPoints}
use Rattle.twin_laws.specs.Before.{NoTwins, NoLowerTwin, SameAsBefore, pairs_before, board_before, searched_before, floor_before, fitted_before}
use Rattle.model.proofs.Answers.{result_same}
use Rattle.model.proofs.Paths.{live_here}
use Rattle.model.proofs.Twins.{twins_sym, twins_iff}
use Rattle.model.proofs.Examples.{B-valid}
use Rattle.twin_laws.proofs.InRuns.{first_fit_shown}
use Rattle.twin_laws.proofs.Before.{no_twins, same_as_before, fitted_as_before}

-- ---- B: transition 0 starts timer 0 and not timer 1

B-differ : Twins B 0 1 → ⊥
unfolding B drawn arrow memb
B-differ t = true≢false (t.together 0 _ (record { there = refl }))

pub B-no-twins : NoTwins B
unfolding B drawn
B-no-twins zero zero h h' t = refl
B-no-twins zero (suc zero) h h' t = absurd (B-differ t)
B-no-twins zero (suc (suc k)) h h' t = omega arith
B-no-twins (suc zero) zero h h' t = absurd (B-differ (twins_sym t))
B-no-twins (suc zero) (suc k) h h' t = omega arith
B-no-twins (suc (suc j)) k h h' t = omega arith

pub B-as-before : SameAsBefore B
B-as-before = same_as_before B-valid (no_twins B-valid B-no-twins)

-- all its locations are reached
B-part : reached_part B ≡ B
unfolding B drawn arrow joined minus every_timer filtered lowest gather up_to
    brings made round rounds_of same_sets changing settled at_initial reached_flow reached_sets is_empty leaves_reached reached_part
B-part = refl

pub B-fitted-as-before : (K : ℕ) → fitted K B ≡ fitted_before K B
B-fitted-as-before = fitted_as_before B-valid (subst NoLowerTwin (sym B-part) (no_twins B-valid B-no-twins))

-- ---- timers 0 and 1 started together: one board timer, where it was two

pub together_fewer : (used started_together ≡ 1) × (floor started_together ≡ 1)
    × (used_by (board_before started_together) ≡ 2) × (floor_before started_together ≡ 2)
unfolding started_together drawn arrow test
    member joined common minus added every_timer ones ones_in memb any_of lowest gather up_to pick top
    brings made round rounds_of same_sets changing settled set_of starts_set tests_set live_flow live_sets
    members image xor in_same_sets lowest_in_same lowest_twin merged_sets is_pair live_pairs link_flow family_of family_from families meets
    held free place first_fit used_by board used placings meeting_differ planned fewest searched floor
    pairs_before board_before searched_before floor_before
together_fewer = (refl, refl, refl, refl)

pub together_other_board : board started_together ≡ board_before started_together → ⊥
unfolding used
together_other_board e = omega (arith, together_fewer.0, together_fewer.2, ap used_by e)

together_twins : Twins started_together 0 1
unfolding started_together drawn arrow member added set_of starts_set xor in_same_sets any_of
together_twins = (twins_iff started_together 0 1).0 refl

-- timer 1 is live at location 2
pub together_lower_twin : NoLowerTwin started_together → ⊥
unfolding started_together drawn arrow test tested memb any_of
together_lower_twin own = omega (arith, own 2 1 0 (live_here read) (twins_sym together_twins))
  where
    read : ReadAt started_together 2 1
    read = record { number = 2; transition = _; is_nth = record { there = refl }; leaves = refl; tests_it = refl }

-- at location 2 timer 0 is not live any more, and has no number; but board timer 0, which is that of timer 1, shows its count too, after every wait
pub together_shown : ((board_numbering (reached_part started_together)).number 2 0 ≡ none) × ((v w : Counts)
    → (x : ShownAtPoints started_together (reached_part started_together) (rewritten started_together)
    (board_numbering (reached_part started_together)) v w two_steps)
    × (x.left.location ≡ 2) × ((d : ℕ) → (waited d x.left').counts 0 ≡ (waited d x.left).counts 0))
unfolding started_together drawn arrow test two_steps steps_of met
    member joined common minus added every_timer memb any_of filtered first_of lowest gather up_to pick top
    brings made round rounds_of same_sets changing settled set_of starts_set tests_set at_initial
    live_flow live_sets unstarted_flow unstarted_sets reached_flow reached_sets is_empty first_unreached first_unstarted allows_spare judged
    leaves_reached reached_part
    members image xor in_same_sets lowest_in_same lowest_twin merged_sets is_pair live_pairs link_flow family_of family_from families meets
    held free place first_fit used_by number_at board numbering through board_numbering
    grown restarted all_met after enabled attempt steps begin outcome every_time waited
together_shown = (
  refl,
  λ v w.
      let x = first_fit_shown {W = 2} {c = started_together} (omega arith) refl v w two_steps [] (_, record { ends = refl }) in
      let here : 2 ≡ x.left.location = ap (λ (s : State). s.location) (result_same x.run.ends) in
      (x, sym here, λ d. (x.waits d).shows 0 1 0 together_twins (rw (← here) refl)),
)

-- ---- timers 0 and 2 started together, timer 0 live nowhere: the lower twin changes the numbers though it is not live

pub untested_other_numbers : (board_numbers (board lowest_untested) ≡ (64, 0) ∷ (65, 1) ∷ [])
    × (board_numbers (board_before lowest_untested) ≡ (65, 0) ∷ (66, 1) ∷ [])
unfolding lowest_untested drawn arrow test board_numbers family_number
    member joined common minus added every_timer memb any_of lowest gather up_to pick top
    brings made round rounds_of same_sets changing settled set_of starts_set tests_set live_flow live_sets
    members image xor in_same_sets lowest_in_same lowest_twin merged_sets is_pair live_pairs link_flow family_of family_from families meets
    held free place first_fit board pairs_before board_before
untested_other_numbers = (refl, refl)

-- ---- with a spare location: transition 2, which leaves it, starts timer 0 and not timer 1; in the part that counts they are twins

pub spare_twins : Twins (reached_part with_spare) 0 1 × (Twins with_spare 0 1 → ⊥)
unfolding with_spare in_version drawn arrow on_event member joined minus added every_timer memb any_of filtered lowest gather up_to
    brings made round rounds_of same_sets changing settled set_of starts_set at_initial reached_flow reached_sets is_empty leaves_reached reached_part
    xor in_same_sets
spare_twins = ((twins_iff (reached_part with_spare) 0 1).0 refl, λ t. true≢false (t.together 2 _ (record { there = refl })))
