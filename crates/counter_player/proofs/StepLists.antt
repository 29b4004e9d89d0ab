-- The steps of a list on the counter board, one after another. What each leaves is said for every kind of state in `steps`.
use Rattle.std.proofs.Common.{◌≡◌, ℕ, suc, ◌<◌, ◌≤◌, min, ◌⊎◌, List, [], ◌∷◌, length, get_or, drop, refl, inl, inr, arith}
use Rattle.std.proofs.Common.{drop_of_length-le, drop-cons}
use Rattle.lists.proofs.Bools.{lt_or_le}
use Rattle.model.specs.Answer.{Answer, returned, then}
use Rattle.model.specs.Chart.{Chart}
use Rattle.steps.proofs.StepLists.{StepSequence}
use Rattle.counter_model.specs.CounterRun.{CounterState, counter_attempt, counter_steps}

module _ (c : Chart) (is rs : List ℕ) where
  abbrev pub step_tried : (k : ℕ) → CounterState → Answer CounterState
  step_tried k s = counter_attempt c k s (get_or is k 0) (get_or rs k 0)

  abbrev pub steps_from : (k : ℕ) → CounterState → Answer CounterState
  steps_from k s = counter_steps c k s (drop k is) (drop k rs)

  pub next_step : (k : ℕ) (s : CounterState) → k < min (length is) (length rs) → steps_from k s ≡ then (step_tried k s) (steps_from (suc k))
  unfolding counter_steps
  next_step k s h = rw (drop-cons is k 0 (omega arith), drop-cons rs k 0 (omega arith)) refl

  -- one of the two lists has come to its end
  pub none_left : (k : ℕ) (s : CounterState) → min (length is) (length rs) ≤ k → steps_from k s ≡ returned s
  unfolding counter_steps
  none_left k s h = go (lt_or_le k (length is))
    where
      without_reading : (l : List ℕ) → counter_steps c k s l [] ≡ returned s
      without_reading [] = refl
      without_reading (i ∷ l) = refl

      go : (k < length is) ⊎ (length is ≤ k) → steps_from k s ≡ returned s
      go (inl l) = let h : length rs ≤ k = omega arith in rw (drop_of_length-le rs h) (without_reading (drop k is))
      go (inr l) = rw (drop_of_length-le is l) refl

  abbrev pub counter_sequence : StepSequence CounterState
  counter_sequence = record { number = min (length is) (length rs); tried = step_tried; rest = steps_from; next = next_step; ended = none_left }
