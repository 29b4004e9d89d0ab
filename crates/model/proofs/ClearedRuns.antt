-- The chart whose transitions from spare locations have no tests and no starts (document 02, P7): every step list comes to the same as in the chart,
-- so what behaves as it behaves as the chart. Hard: that a step from a reached location never takes a transition that was cleared.
use mathlib.Core.Path.{◌≡◌, refl, sym, ap, subst, ◌∙◌}
use mathlib.Core.Logic.{◌⊎◌, inl, inr}
use mathlib.Core.Bool.{Bool, true, false}
use mathlib.Core.Option.{Option, none, some}
use mathlib.Core.List.{List, [], ◌∷◌, ◌++◌}
use Prim.Native.Nat.{ℕ, suc}
use lib.Dec.{eqb}
use lib.ListN.{get_elem?}
use Rattle.lists.proofs.Bools.{yes_or_no, same_number}
use Rattle.lists.proofs.Membership.{nth_none}
use Rattle.model.specs.Answer.{returned, refused, then, unless}
use Rattle.model.specs.Chart.{Transition, Chart, Nth}
use Rattle.model.specs.Valid.{Valid}
use Rattle.model.specs.Path.{Reached}
use Rattle.model.specs.Live.{reached_sets}
use Rattle.model.specs.Spare.{leaves_reached, spare_cleared}
use Rattle.model.specs.Run.{Counts, State, Step, Run, EndsAccepting}
use Rattle.model.specs.Run.{enabled, attempt, steps, begin, outcome, every_time, player_time, accepts, waited, after}
use Rattle.model.specs.Player.{arrival, answer_of}
use Rattle.model.specs.Equivalence.{SamePoint, Alike}
use Rattle.model.proofs.Paths.{reached_initial, reached_step}
use Rattle.model.proofs.Steps.{judged_step, attempt_none, attempt_some, Taken, attempt_taken}
use Rattle.model.proofs.Answers.{result_same, then_result, then_known}
use Rattle.model.proofs.SpareCleared.{bare_source, cleared, cleared_nth, cleared_one, cleared_kept}

-- the judgement of a transition looks at nothing else of the chart
any_chart : (c d : Chart) (n : ℕ) (r : Transition) (s : State) (t : ℕ) → judged_step c n r s t ≡ judged_step d n r s t
unfolding enabled
any_chart c d n r s t = refl

-- 22: the transition leaves another location
elsewhere : (c : Chart) (n : ℕ) (r : Transition) (s : State) (t : ℕ) → eqb r.source s.location ≡ false → judged_step c n r s t ≡ refused 22 n
elsewhere c n r s t e = rw e refl

-- ---- where steps lead

step_reached : {c : Chart} {s : State} {e : Step} {t : State} → Taken c s e t → Reached c s.location → Reached c t.location
unfolding after
step_reached {c} x y = subst (λ (z : State). Reached c z.location) x.left (reached_step (rw x.leaves y) x.is_nth)

steps_reached : (c : Chart) (es : List Step) (n : ℕ) (s t : State) → steps every_time c n s es ≡ returned t → Reached c s.location
    → Reached c t.location
unfolding steps
steps_reached c [] n s t h y = rw (← result_same h) y
steps_reached c (e ∷ es) n s t h y =
    let x = then_result (attempt every_time c n s e) _ h in
    steps_reached c es (suc n) x.0 t x.2 (step_reached (attempt_taken every_time c n s e x.0 x.1) y)

-- a run ends in a reached location
pub run_reached : (c : Chart) {v : Counts} {es : List Step} {s : State} → Run c v es s → Reached c s.location
unfolding outcome begin
run_reached c {v} {es} {s} x = steps_reached c es 0 (begin c v) s x.ends reached_initial

module _ {W : ℕ} {c : Chart} (valid : Valid W c) where
  -- one step from a reached location
  attempt_same : (allowed : ℕ → Bool) (n : ℕ) (s : State) (e : Step) → Reached c s.location
      → attempt allowed c n s e ≡ attempt allowed (spare_cleared c) n s e
  attempt_same allowed n s e x = go (get_elem? c.transitions e.transition) refl
    where
      d : Chart
      d = spare_cleared c

      go : (o : Option Transition) → get_elem? c.transitions e.transition ≡ o → attempt allowed c n s e ≡ attempt allowed d n s e
      go none h =
          attempt_none allowed c n s e h
          ∙ sym (attempt_none allowed d n s e (unfold spare_cleared in (nth_none (cleared c) c.transitions e.transition h)))
      go (some r) h =
          let m : Nth c e.transition r = record { there = h } in
          attempt_some allowed c n s e m ∙ each m (yes_or_no (eqb r.source s.location)) ∙ sym (attempt_some allowed d n s e (cleared_nth c m))
        where
          each : Nth c e.transition r → (eqb r.source s.location ≡ true) ⊎ (eqb r.source s.location ≡ false)
              → unless (allowed e.time) 15 n (judged_step c n r s e.time)
              ≡ unless (allowed e.time) 15 n (judged_step d n (cleared c r) s e.time)
          each m (inl y) =
              let kept = cleared_one valid m (subst (Reached c) (sym (same_number y)) x) in
              ap (λ a. unless (allowed e.time) 15 n a)
              (any_chart c d n r s e.time ∙ ap (λ (t : Transition). judged_step d n t s e.time) (sym kept))
          each m (inr y) =
              let z = ap (λ (q : ℕ). eqb q s.location) (bare_source (leaves_reached (reached_sets c) r) r) ∙ y in
              ap (λ a. unless (allowed e.time) 15 n a) (elsewhere c n r s e.time y ∙ sym (elsewhere d n (cleared c r) s e.time z))

  steps_same : (allowed : ℕ → Bool) (es : List Step) (n : ℕ) (s : State) → Reached c s.location
      → steps allowed c n s es ≡ steps allowed (spare_cleared c) n s es
  unfolding steps
  steps_same allowed [] n s x = refl
  steps_same allowed (e ∷ es) n s x =
      then_known (attempt allowed c n s e) _ _ (λ t h. steps_same allowed es (suc n) t (step_reached (attempt_taken allowed c n s e t h) x))
      ∙ ap (λ y. then y (λ t. steps allowed (spare_cleared c) (suc n) t es)) (attempt_same allowed n s e x)

  pub outcome_same : (allowed : ℕ → Bool) (v : Counts) (es : List Step) → outcome allowed c v es ≡ outcome allowed (spare_cleared c) v es
  unfolding outcome begin spare_cleared
  outcome_same allowed v es = steps_same allowed es 0 (begin c v) reached_initial

  -- ---- so it behaves as the chart: what is alike to it is alike to the chart

  answer_same : (allowed : ℕ → Bool) (v : Counts) (es : List Step) → answer_of allowed c v es ≡ answer_of allowed (spare_cleared c) v es
  unfolding answer_of arrival accepts spare_cleared
  answer_same allowed v es = ap (λ x. then x (arrival c)) (outcome_same allowed v es)

  run_there : (v : Counts) (es : List Step) (s : State) → Run c v es s → Run (spare_cleared c) v es s
  run_there v es s x = record { ends = sym (outcome_same every_time v es) ∙ x.ends }

  run_back : (v : Counts) (es : List Step) (s : State) → Run (spare_cleared c) v es s → Run c v es s
  run_back v es s x = record { ends = outcome_same every_time v es ∙ x.ends }

  -- the tests on transitions that leave a reached location
  point_back : {c' : Chart} {taken : List Step} {s s' : State} → Reached c s.location → SamePoint (spare_cleared c) c' taken s s'
      → SamePoint c c' taken s s'
  point_back x p = record {
    location = p.location;
    time = p.time;
    as_many = λ i r r' n n' from. p.as_many i r r' (cleared_kept valid n (rw from x)) n' from;
    reads = λ i r n from. p.reads i r (cleared_kept valid n (rw from x)) from;
  }

  pub cleared_alike : {c' : Chart} → Alike (spare_cleared c) c' → Alike c c'
  unfolding waited
  cleared_alike {c'} a = record {
    answers = λ v w es. answer_same every_time v es ∙ a.answers v w es;
    runs = λ v w es. (
      λ x. (a.runs v w es).0 (x.0, run_there v es x.0 x.1),
      λ x. let y = (a.runs v w es).1 x in (y.0, run_back v es y.0 y.1),
    );
    accepting = λ v w es. (
      λ x. (a.accepting v w es).0 (ends_there v es x),
      λ x. ends_back v es ((a.accepting v w es).1 x),
    );
    points = λ v w taken rest x.
        let p = a.points v w taken rest (x.0, run_there v (taken ++ rest) x.0 x.1) in
        let run = run_back v taken p.left p.run in
        record { left = p.left; left' = p.left'; run = run; run' = p.run'; waits = λ d. point_back (run_reached c run) (p.waits d) };
    plays = λ v w es. answer_same player_time v es ∙ a.plays v w es;
  }
    where
      ends_there : (v : Counts) (es : List Step) → EndsAccepting c v es → EndsAccepting (spare_cleared c) v es
      ends_there v es x =
          record { state = x.state; run = run_there v es x.state x.run; accepting = unfold accepts spare_cleared in x.accepting }

      ends_back : (v : Counts) (es : List Step) → EndsAccepting (spare_cleared c) v es → EndsAccepting c v es
      ends_back v es x =
          record { state = x.state; run = run_back v es x.state x.run; accepting = unfold accepts spare_cleared in x.accepting }
