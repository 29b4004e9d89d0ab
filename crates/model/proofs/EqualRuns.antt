-- For every plan a chart and its rewritten chart have equal runs (demand 3 on charts). Hard: along a list of steps the invariant also says which
-- board timers were started earlier in it, since a test may read only those.
use mathlib.Core.Path.{◌≡◌, refl, sym, ap, ap₂, ◌∙◌}
use mathlib.Core.Logic.{◌⊎◌, inl, inr, ◌↔◌}
use mathlib.Core.Bool.{Bool}
use mathlib.Core.Option.{some}
use mathlib.Core.List.{List, [], ◌∷◌, ◌++◌}
use Prim.Native.Nat.{ℕ, suc, ◌+◌}
use lib.ListN.{length, get_elem?}
use Rattle.lists.specs.Lists.{memb}
use Rattle.model.specs.Answer.{Answer, returned}
use Rattle.model.specs.Chart.{Test, Transition, Chart, Nth}
use Rattle.model.specs.Run.{Counts, State, Step, Run, EndsAccepting, grown, accepts, waited}
use Rattle.model.specs.Run.{attempt, steps, begin, outcome, every_time, player_time}
use Rattle.model.specs.Rewrite.{Numbering, new_transition, rewritten_by}
use Rattle.model.specs.Plan.{Plan}
use Rattle.model.specs.Player.{Arrival, arrival, answer_of}
use Rattle.model.specs.Equivalence.{Starts, StartedIn, Reads, SamePoint, SamePoints, IsRun, Alike}
use Rattle.model.proofs.Answers.{Matching, match_then, match_weaken, match_result, match_result', match_same}
use Rattle.model.proofs.Steps.{run_front}
use Rattle.model.proofs.Transitions.{nth_same}
use Rattle.model.proofs.Rewritten.{tested_nth, on_timer, new_nth, new_test, tests_as_many}
use Rattle.model.proofs.Agree.{Agree, agree_weaken, agree_begin, tests_numbered, shows_at, started_at, attempt_alike}

module _ (c : Chart) (N : Numbering) (P : Plan c N) where
  abbrev c' : Chart
  c' = rewritten_by N c

  -- a list of steps
  pub steps_alike : (allowed : ℕ → Bool) (es : List Step) (n : ℕ) (S : ℕ → Type 0) (s s' : State) → Agree c N S s s'
      → Matching (Agree c N (λ k. S k ⊎ StartedIn (rewritten_by N c) k es)) (steps allowed c n s es) (steps allowed (rewritten_by N c) n s' es)
  unfolding steps
  steps_alike allowed [] n S s s' a = agree_weaken (λ k x. inl x) s s' a
  steps_alike allowed (e ∷ es) n S s s' a =
      match_then (Agree c N (λ k. S k ⊎ Starts c' k e)) (Agree c N (λ k. S k ⊎ StartedIn c' k (e ∷ es)))
      (attempt allowed c n s e) (attempt allowed c' n s' e) (λ t. steps allowed c (suc n) t es) (λ t. steps allowed c' (suc n) t es)
      (λ t t' b.
      match_weaken (Agree c N (λ k. (S k ⊎ Starts c' k e) ⊎ StartedIn c' k es)) _
      (steps allowed c (suc n) t es) (steps allowed c' (suc n) t' es) (agree_weaken regroup)
      (steps_alike allowed es (suc n) (λ k. S k ⊎ Starts c' k e) t t' b))
      (attempt_alike c N P allowed n a e)
    where
      regroup : (k : ℕ) → (S k ⊎ Starts c' k e) ⊎ StartedIn c' k es → S k ⊎ (Starts c' k e ⊎ StartedIn c' k es)
      regroup k (inl (inl x)) = inl x
      regroup k (inl (inr y)) = inr (inl y)
      regroup k (inr z) = inr (inr z)

  -- the tests on transitions that leave the present location, after a wait of d
  point : (d : ℕ) {taken : List Step} {s s' : State} → Agree c N (λ k. StartedIn (rewritten_by N c) k taken) s s'
      → SamePoint c (rewritten_by N c) taken (waited d s) (waited d s')
  unfolding waited grown new_transition
  point d {taken} {s} {s'} a = record { location = a.location; time = ap (λ (x : ℕ). x + d) a.time; as_many = as_many; reads = reads }
    where
      as_many : (i : ℕ) (r r' : Transition) → Nth c i r → Nth c' i r' → r.source ≡ s.location → length r.tests ≡ length r'.tests
      as_many i r r' n n' from =
          sym (tests_as_many N r.source r.tests (tests_numbered c N P n (rw from a.reached)))
          ∙ ap (λ (x : Transition). length x.tests) (nth_same (new_nth N c i n) n')

      reads : (i : ℕ) (r : Transition) → Nth c i r → r.source ≡ s.location → (k : ℕ) (t : Test) → get_elem? r.tests k ≡ some t
          → Reads c' taken (waited d s) (waited d s') i k t
      reads i r n from k t e =
          let numbered = tests_numbered c N P n (rw from a.reached) in
          let h = numbered t.timer (tested_nth r.tests k e) in
          record {
            transition = new_transition N r;
            is_nth = new_nth N c i n;
            leaves = from ∙ a.location;
            test = on_timer t h.0;
            is_test = new_test N r.source r.tests numbered k e h.1;
            comparison = refl;
            constant = refl;
            started = started_at c N P n a from t.timer h.0 h.1;
            shows = ap (λ (x : ℕ). x + d) (sym (shows_at c N P n a from t.timer h.0 h.1));
          }

  module _ (v w : Counts) where
    abbrev AgreeAfter : List Step → State → State → Type 0
    AgreeAfter es = Agree c N (λ k. StartedIn (rewritten_by N c) k es)

    pub outcome_alike : (allowed : ℕ → Bool) (es : List Step)
        → Matching (Agree c N (λ k. StartedIn (rewritten_by N c) k es)) (outcome allowed c v es) (outcome allowed (rewritten_by N c) w es)
    unfolding outcome
    outcome_alike allowed es =
        match_weaken (Agree c N (λ k. ⊥ ⊎ StartedIn c' k es)) (AgreeAfter es) (steps allowed c 0 (begin c v) es) (steps allowed c' 0 (begin c' w) es)
        (agree_weaken only) (steps_alike allowed es 0 (λ k. ⊥) (begin c v) (begin c' w) (agree_begin c N P v w))
      where
        only : (k : ℕ) → ⊥ ⊎ StartedIn c' k es → StartedIn c' k es
        only k (inl x) = absurd x
        only k (inr y) = y

    answers_alike : (allowed : ℕ → Bool) (es : List Step) → answer_of allowed c v es ≡ answer_of allowed (rewritten_by N c) w es
    unfolding answer_of arrival accepts rewritten_by
    answers_alike allowed es =
        match_same (AgreeAfter es) (outcome allowed c v es) (outcome allowed c' w es) (arrival c) (arrival c')
        (λ s s' a. ap₂ arrived a.location a.time)
        (outcome_alike allowed es)
      where
        arrived : (q t : ℕ) → Answer Arrival
        arrived q t = returned (record { location = q; time = t; accepting = memb q c.accepting })

    -- a run of either is a run of the other, and they agree in the end
    run_there : (es : List Step) (s : State) → Run c v es s → (s' : State) × Run c' w es s' × AgreeAfter es s s'
    run_there es s x =
        let y = match_result (AgreeAfter es) (outcome every_time c' w es) (rw x.ends at (outcome_alike every_time es)) in
        (y.0, record { ends = y.1 }, y.2)

    run_back : (es : List Step) (s' : State) → Run c' w es s' → (s : State) × Run c v es s × AgreeAfter es s s'
    run_back es s' x =
        let y = match_result' (AgreeAfter es) (outcome every_time c v es) (rw x.ends at (outcome_alike every_time es)) in
        (y.0, record { ends = y.1 }, y.2)

    accepts_alike : (es : List Step) {s s' : State} → AgreeAfter es s s' → accepts c s.location ≡ accepts c' s'.location
    unfolding accepts rewritten_by
    accepts_alike es a = ap (λ (q : ℕ). memb q c.accepting) a.location

    runs_alike : (es : List Step) → IsRun c v es ↔ IsRun (rewritten_by N c) w es
    runs_alike es =
        (λ x. let y = run_there es x.0 x.1 in (y.0, y.1), λ x. let y = run_back es x.0 x.1 in (y.0, y.1))

    accepting_alike : (es : List Step) → EndsAccepting c v es ↔ EndsAccepting (rewritten_by N c) w es
    accepting_alike es = (
      λ x. let y = run_there es x.state x.run in record { state = y.0; run = y.1; accepting = sym (accepts_alike es y.2) ∙ x.accepting },
      λ x. let y = run_back es x.state x.run in record { state = y.0; run = y.1; accepting = accepts_alike es y.2 ∙ x.accepting },
    )

    points_alike : (taken rest : List Step) → IsRun c v (taken ++ rest) → SamePoints c (rewritten_by N c) v w taken
    points_alike taken rest x =
        let y = run_front c v taken rest x in
        let z = run_there taken y.0 y.1 in
        record { left = y.0; left' = z.0; run = y.1; run' = z.1; waits = λ d. point d z.2 }

-- The theorem of equal runs.
pub plan_alike : (c : Chart) (N : Numbering) → Plan c N → Alike c (rewritten_by N c)
plan_alike c N P = record {
  answers = λ v w. answers_alike c N P v w every_time;
  runs = runs_alike c N P;
  accepting = accepting_alike c N P;
  points = points_alike c N P;
  plays = λ v w. answers_alike c N P v w player_time;
}
