-- Charts that behave alike, and charts that do not, clause by clause: other runs, other acceptance, a test of a timer that was not started, one test
-- more; and one chart from other counts, by each clause of `Alike`. What the definitions compute is put to the laws of `Meanings`.
use mathlib.Core.Path.{◌≡◌, refl, sym, ap, ◌∙◌}
use mathlib.Core.Logic.{⊎_elim}
use mathlib.Core.Bool.{Bool, true, true≢false}
use mathlib.Core.List.{[]}
use Prim.Native.Nat.{ℕ}
use native.Mathlib.Omega.{arith}
use Rattle.model.specs.Answer.{returned, refused}
use Rattle.model.specs.Chart.{Chart}
use Rattle.model.specs.Run.{State, EndsAccepting, every_time, player_time}
use Rattle.model.specs.Player.{answer_of}
use Rattle.model.specs.Equivalence.{IsRun, StartedIn, SamePoints, SameAnswers, SameRuns, SameAccepting, SameAtPoints, Alike}
use Rattle.model.specs.Cases.{B, B'}
use Rattle.model.specs.Examples.{one_step, two_steps, stricter, other_end, started, not_started, one_test_more, count_decides}
use Rattle.model.proofs.Computing.{charts_compute}
use Rattle.model.proofs.Answers.{result_refused, result_same}
use Rattle.model.proofs.EqualAnswers.{equal_behaviour}
use Rattle.model.proofs.Meanings.{is_run_iff, ends_accepting_iff, starts_iff, reads_none, reads_started}
use Rattle.model.proofs.Examples.{B-valid, B-rewritten, B-run, stricter_no_run, other_end_accepting, B-not-accepting}

pub B-alike : Alike B B'
B-alike = (equal_behaviour 2 16 B B-valid _ B-rewritten).alike

-- other runs
pub stricter_other_runs : SameRuns B stricter → ⊥
stricter_other_runs a = stricter_no_run (λ j. 0) ((a (λ j. 0) (λ j. 0) two_steps).0 (B-run (λ j. 0)))

-- others end accepting
pub other_end_other_accepting : SameAccepting B other_end → ⊥
other_end_other_accepting a = B-not-accepting (λ j. 0) ((a (λ j. 0) (λ j. 0) two_steps).1 (other_end_accepting (λ j. 0)))

-- the point after 0 at 5, in location 1
module _ {c' : Chart} (a : SameAtPoints started c') where
  after_one : SamePoints started c' (λ j. 0) (λ j. 0) one_step
  unfolding charts_compute started one_step
  after_one = a (λ j. 0) (λ j. 0) one_step [] (_, record { ends = refl })

  in_one : 1 ≡ after_one.left.location
  unfolding charts_compute started one_step
  in_one = ap (λ (s : State). s.location) (result_same after_one.run.ends)

-- there a test reads a timer that nothing has started
pub not_started_other_points : SameAtPoints started not_started → ⊥
unfolding charts_compute started not_started one_step
not_started_other_points a =
    let x = ((after_one a).waits 0).reads 1 _ (record { there = refl }) (in_one a) 0 _ refl in
    let y : StartedIn not_started 0 one_step = reads_started x (record { there = refl }) refl in
    ⊎_elim (λ z. true≢false (sym ((starts_iff not_started 0 _ (record { there = refl })).0 z))) (λ z. z) y

-- or the transition has one test more
pub one_test_more_other_points : SameAtPoints started one_test_more → ⊥
unfolding charts_compute started one_test_more
one_test_more_other_points a =
    let x : ◌≡◌ {A = ℕ} 1 2 = ((after_one a).waits 0).as_many 1 _ _ (record { there = refl }) (record { there = refl }) (in_one a) in
    omega arith

-- from the count 9 the step is taken, from 0 it is refused
module _ (allowed : ℕ → Bool) (all : allowed 5 ≡ true) where
  decided : (answer_of allowed count_decides (λ j. 9) one_step ≡ returned (record { location = 1; time = 5; accepting = true }))
      × (answer_of allowed count_decides (λ j. 0) one_step ≡ refused 24 0)
  unfolding charts_compute count_decides one_step
  decided = (rw all refl, rw all refl)

-- so no clause holds of the chart and itself, from other counts
pub count_decides_no_clause : (SameAnswers every_time count_decides count_decides → ⊥) × (SameAnswers player_time count_decides count_decides → ⊥)
    × (SameRuns count_decides count_decides → ⊥) × (SameAccepting count_decides count_decides → ⊥) × (SameAtPoints count_decides count_decides → ⊥)
unfolding charts_compute count_decides
count_decides_no_clause = (
  λ a. result_refused (sym (a (λ j. 9) (λ j. 0) one_step) ∙ list.0) list.1,
  λ a. result_refused (sym (a (λ j. 9) (λ j. 0) one_step) ∙ (decided player_time refl).0) (decided player_time refl).1,
  λ a. result_refused ((is_run_iff count_decides (λ j. 0) one_step).0 ((a (λ j. 9) (λ j. 0) one_step).0 run)).1 list.1,
  λ a. result_refused ((ends_accepting_iff count_decides (λ j. 0) one_step).0 ((a (λ j. 9) (λ j. 0) one_step).0 accepting)).1 list.1,
  λ a.
      let both : SamePoints count_decides count_decides (λ j. 9) (λ j. 0) [] = a (λ j. 9) (λ j. 0) [] [] (_, record { ends = refl }) in
      reads_none ((both.waits 0).reads 0 _ (record { there = refl }) (ap (λ (s : State). s.location) (result_same both.run.ends)) 0 _ refl),
)
  where
    list : (answer_of every_time count_decides (λ j. 9) one_step ≡ returned (record { location = 1; time = 5; accepting = true }))
        × (answer_of every_time count_decides (λ j. 0) one_step ≡ refused 24 0)
    list = decided every_time refl

    run : IsRun count_decides (λ j. 9) one_step
    run = (is_run_iff count_decides (λ j. 9) one_step).1 (_, list.0)

    accepting : EndsAccepting count_decides (λ j. 9) one_step
    accepting = (ends_accepting_iff count_decides (λ j. 9) one_step).1 (_, list.0, refl)
