-- The numbers that a step list and the player can be refused with, and that a step list is refused at the number of a step: the bounds widen step by
-- step.
use mathlib.Core.Path.{◌≡◌, refl, sym, ◌∙◌}
use mathlib.Core.Logic.{◌⊎◌, inl, inr}
use mathlib.Core.Bool.{Bool, true, false, true≢false, ◌||◌}
use mathlib.Core.Option.{Option, none, some}
use mathlib.Core.List.{List, [], ◌∷◌}
use Prim.Native.Nat.{ℕ, suc, ◌+◌, ◌-◌}
use lib.Dec.{leb, eqb}
use lib.ListN.{length, get_elem?}
use Rattle.lists.specs.Lists.{memb, lowest}
use Rattle.model.specs.Answer.{Answer, returned, refused, unless, nowhere}
use Rattle.model.specs.Chart.{Transition, Chart}
use Rattle.model.specs.Version.{allows_spare}
use Rattle.model.specs.Run.{Counts, State, Step, grown, after, enabled, attempt, steps, begin, outcome, every_time, player_time}
use Rattle.model.specs.Live.{first_unreached, first_unstarted}
use Rattle.model.specs.Judge.{judged}
use Rattle.model.specs.Player.{arrival, answer_of, too_large, counts_judged, played, played_on}
use Rattle.model.specs.Refusals.{NumberIn, StepRefusal}
use Rattle.model.proofs.Answers.{not_result, refuses_result, refuses_unless, refuses_wider, refuses_at, unless_place, steps_more, ended_place}
use Rattle.model.proofs.Steps.{judged_step, attempt_none, attempt_some}

-- ---- a list that has the numbers of the steps

module _ (l : List ℕ) (allowed : ℕ → Bool) (has-15 : (t : ℕ) → allowed t ≡ false → memb 15 l ≡ true)
    (has : (memb 14 l ≡ true) × (memb 22 l ≡ true) × (memb 23 l ≡ true) × (memb 24 l ≡ true)) (c : Chart) where
  attempt_place : (k : ℕ) (s : State) (e : Step) → StepRefusal l k (suc k) (attempt allowed c k s e)
  attempt_place k s e = go (get_elem? c.transitions e.transition) refl
    where
      go : (o : Option Transition) → get_elem? c.transitions e.transition ≡ o → StepRefusal l k (suc k) (attempt allowed c k s e)
      go none h = rw (attempt_none allowed c k s e h) (refuses_at l k has.0)
      go (some r) h =
          rw (attempt_some allowed c k s e (record { there = h }))
          (unless_place l k (allowed e.time) 15 (judged_step c k r s e.time) (has-15 e.time)
          (unless_place l k (eqb r.source s.location) 22 _ (λ f. has.1)
          (unless_place l k (leb s.time e.time) 23 _ (λ f. has.2)
          (unless_place l k (enabled c r (grown (e.time - s.time) s.counts)) 24 _ (λ f. has.3) (refuses_result (after r s e.time))))))

  steps_place : (es : List Step) (k : ℕ) (s : State) → StepRefusal l k (k + length es) (steps allowed c k s es)
  unfolding steps
  steps_place [] k s = refuses_result s
  steps_place (e ∷ es) k s = steps_more l k (length es) (attempt allowed c k s e) _ (attempt_place k s e) (λ s'. steps_place es (suc k) s')

  -- each at the number of one of the steps
  pub answer_place : (v : Counts) (es : List Step) → StepRefusal l 0 (length es) (answer_of allowed c v es)
  unfolding answer_of outcome arrival
  answer_place v es = ended_place l (length es) (outcome allowed c v es) (arrival c) (steps_place es 0 (begin c v)) (λ s. refuses_result _)

  pub answer_numbers : (v : Counts) (es : List Step) → NumberIn l (answer_of allowed c v es)
  answer_numbers v es = refuses_wider (λ n p r. r.0) (answer_place v es)

-- a step list that takes every time
pub list_numbers : (c : Chart) (v : Counts) (es : List Step) → NumberIn (14 ∷ 22 ∷ 23 ∷ 24 ∷ []) (answer_of every_time c v es)
unfolding memb every_time
list_numbers c v es = answer_numbers (14 ∷ 22 ∷ 23 ∷ 24 ∷ []) every_time (λ t e. absurd (true≢false e)) (refl, refl, refl, refl) c v es

-- ---- the player

-- the numbers that follow on 9 and 10
abbrev later : List ℕ
later = 12 ∷ 13 ∷ 14 ∷ 15 ∷ 22 ∷ 23 ∷ 24 ∷ []

pub after_numbers : (counts is ts : List ℕ) (c : Chart) → NumberIn later (played_on counts is ts c)
unfolding memb counts_judged
after_numbers counts is ts c =
    refuses_unless (eqb (length counts) c.timers) 12 nowhere _ (λ e. refl) (λ e.
    refuses_unless (leb c.timers first) 12 first _ (λ e. refl) (λ e.
    refuses_unless (eqb (length is) (length ts)) 13 nowhere _ (λ e. refl) (λ e.
    answer_numbers later player_time (λ t e. refl) (refl, refl, refl, refl) c _ _)))
  where
    first : ℕ
    first = lowest (too_large counts) c.timers

-- ---- 9 and 10

module _ (c : Chart) where
  abbrev Refused : Answer Chart → Type 0
  Refused x = (n p : ℕ) × (x ≡ refused n p) × (memb n (9 ∷ 10 ∷ []) ≡ true)

  pub judged_either : (judged c ≡ returned c) ⊎ ((n p : ℕ) × (judged c ≡ refused n p) × (memb n (9 ∷ 10 ∷ []) ≡ true))
  unfolding judged
  judged_either =
      two_tests (allows_spare c.version || leb c.locations (first_unreached c)) (leb (length c.transitions) (first_unstarted c))
      (first_unreached c) (first_unstarted c)
    where
      two_tests : (b b' : Bool) (p p' : ℕ)
          → (unless b 9 p (unless b' 10 p' (returned c)) ≡ returned c) ⊎ Refused (unless b 9 p (unless b' 10 p' (returned c)))
      two_tests false b' p p' = inr (9, p, refl, unfold memb in refl)
      two_tests true false p p' = inr (10, p', refl, unfold memb in refl)
      two_tests true true p p' = inl refl

  -- a result of the judgement is the chart itself
  pub judged_is : {c' : Chart} → judged c ≡ returned c' → judged c ≡ returned c
  judged_is e = go judged_either
    where
      go : (judged c ≡ returned c) ⊎ Refused (judged c) → judged c ≡ returned c
      go (inl h) = h
      go (inr h) = absurd (not_result (sym h.2 ∙ e))

module _ (c : Chart) (counts is ts : List ℕ) where
  pub played_judged : judged c ≡ returned c → played c counts is ts ≡ played_on counts is ts c
  unfolding played
  played_judged e = rw e refl

  pub played_refused : {n p : ℕ} → judged c ≡ refused n p → played c counts is ts ≡ refused n p
  unfolding played
  played_refused e = rw e refl
