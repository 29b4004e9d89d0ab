-- A step list on the counter board is refused with 14, 22 or 24, at the number of one of its steps. The bounds widen step by step.
use mathlib.Core.Path.{◌≡◌, refl}
use mathlib.Core.Bool.{true}
use mathlib.Core.Option.{Option, none, some}
use mathlib.Core.List.{List, [], ◌∷◌}
use Prim.Native.Nat.{ℕ, suc, ◌+◌, ◌≤◌, ◌<◌}
use lib.Dec.{eqb}
use lib.ListN.{length, get_elem?}
use Rattle.lists.specs.Lists.{memb}
use Rattle.model.specs.Answer.{refused}
use Rattle.model.specs.Chart.{Transition, Chart}
use Rattle.model.specs.Run.{Counts, enabled}
use Rattle.model.specs.Refusals.{StepRefusal}
use Rattle.model.proofs.Answers.{refuses_result, refuses_at, unless_place, steps_more, ended_place}
use Rattle.counter_model.specs.CounterRun.{CounterState, counts_at, counter_after, counter_attempt, counter_steps, counter_begin, counter_outcome}
use Rattle.counter_model.specs.CounterPlayer.{counter_arrival, counter_answer_of}
use Rattle.counter_model.proofs.AddedUp.{counter_none, counter_some}

abbrev pub counter_step_numbers : List ℕ
counter_step_numbers = 14 ∷ 22 ∷ 24 ∷ []

module _ (c : Chart) where
  attempt_place : (k : ℕ) (s : CounterState) (i now : ℕ) → StepRefusal counter_step_numbers k (suc k) (counter_attempt c k s i now)
  unfolding memb
  attempt_place k s i now = go (get_elem? c.transitions i) refl
    where
      go : (o : Option Transition) → get_elem? c.transitions i ≡ o → StepRefusal counter_step_numbers k (suc k) (counter_attempt c k s i now)
      go none h = rw (counter_none c k s i now h) (refuses_at counter_step_numbers k refl)
      go (some r) h =
          rw (counter_some c k s i now (record { there = h }))
          (unless_place counter_step_numbers k (eqb r.source s.location) 22 _ (λ f. refl)
          (unless_place counter_step_numbers k (enabled c r (counts_at s now)) 24 _ (λ f. refl) (refuses_result (counter_after r s now))))

  steps_place : (is rs : List ℕ) (k : ℕ) (s : CounterState) → StepRefusal counter_step_numbers k (k + length is) (counter_steps c k s is rs)
  unfolding counter_steps
  steps_place [] rs k s = refuses_result s
  steps_place (i ∷ is) [] k s = refuses_result s
  steps_place (i ∷ is) (now ∷ rs) k s =
      steps_more counter_step_numbers k (length is) (counter_attempt c k s i now) _ (attempt_place k s i now) (λ s'. steps_place is rs (suc k) s')

  answer_places : (first : ℕ) (v : Counts) (is rs : List ℕ) → StepRefusal counter_step_numbers 0 (length is) (counter_answer_of c first v is rs)
  unfolding counter_answer_of counter_outcome counter_arrival
  answer_places first v is rs =
      ended_place counter_step_numbers (length is) (counter_outcome c first v is rs) (counter_arrival c)
      (steps_place is rs 0 (counter_begin c first v)) (λ s. refuses_result _)

  pub answer_place : (first : ℕ) (v : Counts) (is rs : List ℕ) {n p : ℕ} → counter_answer_of c first v is rs ≡ refused n p
      → (memb n counter_step_numbers ≡ true) × ((0 ≤ p) × (p < length is))
  answer_place first v is rs {n} {p} e = (answer_places first v is rs).only n p e
