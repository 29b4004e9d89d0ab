-- Which starting counts 12 allows, and how the player's answer differs from the step list's own (15), in document 01's words.
use Rattle.std.specs.Prelude.{◌≡◌, ◌↔◌, List, ℕ, ◌≤◌, ◌<◌, length, get_or, take}
use mathlib.Core.Option.{some}
use lib.ListN.{get_elem?}
use Rattle.model.specs.Answer.{Answer, refused}
use Rattle.model.specs.Chart.{Transition, Chart, Nth}
use Rattle.model.specs.Run.{Counts, Step, largest_time, every_time}
use Rattle.model.specs.Player.{Arrival, answer_of}
use Rattle.model.specs.Equivalence.{IsRun}

-- one count for each timer, none over 16,777,215
pub record CountsAllowed (c : Chart) (counts : List ℕ) : Type 0 where
  pub one_each : length counts ≡ c.timers
  pub small : (j : ℕ) → j < c.timers → get_or counts j 0 ≤ largest_time

-- step n of the list names a transition, and is the first whose time is over 16,777,215
pub record TooLate (c : Chart) (es : List Step) (n : ℕ) : Type 0 where
  pub step : Step
  pub is_step : get_elem? es n ≡ some step
  pub transition : Transition
  pub names : Nth c step.transition transition
  pub over : largest_time < step.time
  pub first : (i : ℕ) (e : Step) → i < n → get_elem? es i ≡ some e → e.time ≤ largest_time

-- and the steps before it are taken
pub record LateStep (c : Chart) (v : Counts) (es : List Step) (n : ℕ) : Type 0 where
  pub too_late : TooLate c es n
  pub taken : IsRun c v (take n es)

-- a is what the player has to answer to the step list
pub record PlayerAnswer (c : Chart) (v : Counts) (es : List Step) (a : Answer Arrival) : Type 0 where
  -- 15 at step n exactly where step n is late
  pub late : (n : ℕ) → (a ≡ refused 15 n) ↔ LateStep c v es n
  -- in every other case the list's own answer
  pub other : ((n : ℕ) → LateStep c v es n → ⊥) → a ≡ answer_of every_time c v es
