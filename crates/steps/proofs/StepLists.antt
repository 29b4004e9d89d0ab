-- A list of steps, one after another: the state that those so far have left, and what the rest comes to from it. Hard: the definition's state is not
-- the code's, so it is carried along, shown by the code's; this is said once for every kind of state.
use mathlib.Core.Path.{◌≡◌, refl, sym, ap, subst, ◌∙◌}
use mathlib.Core.Logic.{◌⊎◌, inl, inr}
use mathlib.Core.List.{List, [], ◌∷◌}
use Prim.Native.Nat.{ℕ, suc, ◌+◌, ◌≤◌, ◌<◌, min}
use native.Mathlib.Numerals.{add-one}
use native.Mathlib.Omega.{arith}
use lib.ListN.{length, get_or, drop, drop_of_length-le}
use lib.Seq.{drop-cons}
use Rattle.lists.proofs.Bools.{lt_or_le}
use Rattle.model.specs.Answer.{Answer, returned, refused, then}
use Rattle.model.specs.Chart.{Chart}
use Rattle.model.specs.Run.{State as Run-as-State, attempt, steps, player_time}
use Rattle.model.specs.Player.{steps_of}
use Rattle.std.specs.Prelude.{Ok, Err}
use Rattle.refusal.specs.declared.Refusal.{Refusal}
use Rattle.steps.specs.Stepping.{step_at, Decided}

-- ---- states of any kind

-- a number of steps: what each comes to when it is tried, and what those from step k on come to
pub record StepSequence (S : Type 0) : Type 0 where
  pub number : ℕ
  pub tried : (k : ℕ) → S → Answer S
  pub rest : (k : ℕ) → S → Answer S
  pub next : (k : ℕ) (s : S) → k < number → rest k s ≡ then (tried k s) (rest (suc k))
  pub ended : (k : ℕ) (s : S) → number ≤ k → rest k s ≡ returned s

-- k of the steps are taken from s, x shows the state after them, and the rest of the steps decide
pub record Reached {S X : Type 0} (Shown : X → S → Type 0) (t : StepSequence S) (k : ℕ) (s : S) (x : X) : Type 0 where
  pub state : S
  pub shown : Shown x state
  pub same : t.rest 0 s ≡ t.rest k state

module _ {S X : Type 0} {Shown : X → S → Type 0} {t : StepSequence S} where
  pub reached_start : {s : S} {x : X} → Shown x s → Reached Shown t 0 s x
  reached_start {s} w = record { state = s; shown = w; same = refl }

  module _ {k : ℕ} {s : S} {x : X} (w : Reached Shown t k s x) where
    -- no step is left, and of the states that x shows an answer b says P
    pub reached_end : t.number ≤ k → {B : Type 0} (P : B → S → Type 0) (b : B) → ((s' : S) → Shown x s' → P b s') → Decided P (Ok b) (t.rest 0 s)
    reached_end h P b says = subst (Decided P (Ok b)) (sym (w.same ∙ t.ended k w.state h)) (says w.state w.shown)

    -- one step is tried, and then the rest
    module _ (h : k < t.number) {A : Type 0} (next : A → X) where
      all : t.rest 0 s ≡ then (t.tried k w.state) (t.rest (suc k))
      all = w.same ∙ t.next k w.state h

      pub reached_next : (a : A) → ((s' : S) → Shown x s' → Decided (λ (b : A). Shown (next b)) (Ok a) (t.tried k s'))
          → Reached Shown t (k + 1) s (next a)
      reached_next a decided = rw add-one (go (t.tried k w.state) refl (decided w.state w.shown))
        where
          go : (q : Answer S) → t.tried k w.state ≡ q → Decided (λ (b : A). Shown (next b)) (Ok a) q → Reached Shown t (suc k) s (next a)
          go (returned s') p d = record { state = s'; shown = d; same = all ∙ ap (λ (q : Answer S). then q (t.rest (suc k))) p }
          go (refused n p) q d = absurd cc

      -- whatever is said of an answer that is no refusal
      pub reached_refused : {B : Type 0} (P : B → S → Type 0) (f : Refusal)
          → ((s' : S) → Shown x s' → Decided (λ (b : A). Shown (next b)) (Err f) (t.tried k s')) → Decided P (Err f) (t.rest 0 s)
      reached_refused P f decided = subst (Decided P (Err f)) (sym all) (go (t.tried k w.state) (decided w.state w.shown))
        where
          go : (q : Answer S) → Decided (λ (b : A). Shown (next b)) (Err f) q → Decided P (Err f) (then q (t.rest (suc k)))
          go (returned s') d = absurd d
          go (refused n p) d = cc

-- ---- the player's

module _ (c : Chart) (is ts : List ℕ) where
  abbrev pub step_tried : (k : ℕ) → Run-as-State → Answer Run-as-State
  step_tried k s = attempt player_time c k s (step_at (get_or is k 0) (get_or ts k 0))

  abbrev pub steps_from : (k : ℕ) → Run-as-State → Answer Run-as-State
  steps_from k s = steps player_time c k s (steps_of (drop k is) (drop k ts))

  pub next_step : (k : ℕ) (s : Run-as-State) → k < min (length is) (length ts) → steps_from k s ≡ then (step_tried k s) (steps_from (suc k))
  unfolding steps steps_of
  next_step k s h = rw (drop-cons is k 0 (omega arith), drop-cons ts k 0 (omega arith)) refl

  -- one of the two lists has come to its end
  pub none_left : (k : ℕ) (s : Run-as-State) → min (length is) (length ts) ≤ k → steps_from k s ≡ returned s
  unfolding steps steps_of
  none_left k s h = go (lt_or_le k (length is))
    where
      without_time_lem : (l : List ℕ) → steps player_time c k s (steps_of l []) ≡ returned s
      without_time_lem [] = refl
      without_time_lem (i ∷ l) = refl

      go : (k < length is) ⊎ (length is ≤ k) → steps_from k s ≡ returned s
      go (inl l) = let h : length ts ≤ k = omega arith in rw (drop_of_length-le ts h) (without_time_lem (drop k is))
      go (inr l) = rw (drop_of_length-le is l) refl

  abbrev pub player_sequence : StepSequence Run-as-State
  player_sequence = record { number = min (length is) (length ts); tried = step_tried; rest = steps_from; next = next_step; ended = none_left }
