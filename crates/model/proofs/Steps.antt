-- One step, and lists of steps: how an attempt is judged, which transition a step takes, and that what begins a run is a run.
use mathlib.Core.Path.{◌≡◌, refl, sym, ◌∙◌}
use mathlib.Core.Bool.{Bool, true}
use mathlib.Core.Option.{Option, none, some}
use mathlib.Core.List.{List, [], ◌∷◌, ◌++◌}
use Prim.Native.Nat.{ℕ, suc, ◌-◌}
use lib.Dec.{leb, eqb}
use lib.ListN.{get_elem?}
use Rattle.model.specs.Answer.{Answer, returned, refused, then, unless}
use Rattle.model.specs.Chart.{Transition, Chart, Nth}
use Rattle.model.specs.Run.{Counts, State, Step, grown, after, enabled, attempt, steps, begin, outcome, every_time}
use Rattle.model.specs.Equivalence.{IsRun}
use Rattle.lists.proofs.Bools.{same_number}
use Rattle.model.proofs.Answers.{not_result, result_same, unless_result}

-- the judgement of a step that names the transition r, once its time is allowed
abbrev pub judged_step : Chart → (n : ℕ) → Transition → State → (time : ℕ) → Answer State
judged_step c n r s t =
    unless (eqb r.source s.location) 22 n (
    unless (leb s.time t) 23 n (
    unless (enabled c r (grown (t - s.time) s.counts)) 24 n (
    returned (after r s t))))

module _ (allowed : ℕ → Bool) (c : Chart) (n : ℕ) (s : State) (e : Step) where
  pub attempt_none : get_elem? c.transitions e.transition ≡ none → attempt allowed c n s e ≡ refused 14 n
  unfolding attempt
  attempt_none h = rw (h, attempt) refl

  pub attempt_some : {r : Transition} → Nth c e.transition r
      → attempt allowed c n s e ≡ unless (allowed e.time) 15 n (judged_step c n r s e.time)
  unfolding attempt
  attempt_some m = rw (m.there, attempt) refl

-- a step that is taken: its transition leaves the present location, and t is what it leaves
pub record Taken (c : Chart) (s : State) (e : Step) (t : State) : Type 0 where
  pub transition : Transition
  pub is_nth : Nth c e.transition transition
  pub leaves : transition.source ≡ s.location
  pub left : after transition s e.time ≡ t

passed : (a b c d : Bool) (n : ℕ) {s s' : State} → unless a 15 n (unless b 22 n (unless c 23 n (unless d 24 n (returned s)))) ≡ returned s'
    → (b ≡ true) × (s ≡ s')
passed a b c d n e =
    let x = unless_result b 22 n _ (unless_result a 15 n _ e).1 in
    (x.0, result_same (unless_result d 24 n _ (unless_result c 23 n _ x.1).1).1)

pub attempt_taken : (allowed : ℕ → Bool) (c : Chart) (n : ℕ) (s : State) (e : Step) (t : State) → attempt allowed c n s e ≡ returned t → Taken c s e t
attempt_taken allowed c n s e t a = go (get_elem? c.transitions e.transition) refl
  where
    go : (o : Option Transition) → get_elem? c.transitions e.transition ≡ o → Taken c s e t
    go none m = absurd (not_result (sym (attempt_none allowed c n s e m) ∙ a))
    go (some r) m =
        let nth : Nth c e.transition r = record { there = m } in
        let x = passed (allowed e.time) (eqb r.source s.location) (leb s.time e.time)
        (enabled c r (grown (e.time - s.time) s.counts)) n (sym (attempt_some allowed c n s e nth) ∙ a) in
        record { transition = r; is_nth = nth; leaves = same_number x.0; left = x.1 }

module _ (allowed : ℕ → Bool) (c : Chart) where
  abbrev Ends : Answer State → Type 0
  Ends x = (s : State) × (x ≡ returned s)

  -- what is taken is taken up to any of its steps
  pub steps_front : (es fs : List Step) (n : ℕ) (s : State) → Ends (steps allowed c n s (es ++ fs)) → Ends (steps allowed c n s es)
  unfolding steps
  steps_front [] fs n s x = (s, refl)
  steps_front (e ∷ es) fs n s x = go (attempt allowed c n s e) (λ (t : State). steps_front es fs (suc n) t) x
    where
      go : (y : Answer State) → ((t : State) → Ends (steps allowed c (suc n) t (es ++ fs)) → Ends (steps allowed c (suc n) t es))
          → Ends (then y (λ t. steps allowed c (suc n) t (es ++ fs))) → Ends (then y (λ t. steps allowed c (suc n) t es))
      go (returned t) f z = f t z
      go (refused k p) f z = absurd (not_result z.1)

pub run_front : (c : Chart) (v : Counts) (es fs : List Step) → IsRun c v (es ++ fs) → IsRun c v es
unfolding outcome
run_front c v es fs x = let y = steps_front every_time c es fs 0 (begin c v) (x.0, x.1.ends) in (y.0, record { ends = y.1 })
