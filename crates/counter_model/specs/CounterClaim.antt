-- That the counter board answers as the player: the provisos on the times of a step list, and the claim, on files (document 02, P5).
use Rattle.std.specs.Prelude.{◌≡◌, List, [], ◌∷◌, ℕ, ◌-◌, ◌≤◌, ◌<◌, length, get_or, take}
use Rattle.model.specs.Answer.{Answer, returned, then}
use Rattle.model.specs.Chart.{Chart}
use Rattle.model.specs.Run.{largest_time}
use Rattle.model.specs.Player.{Arrival}
use Rattle.model.specs.PlayerTerms.{CountsAllowed}
use Rattle.player.specs.Playing.{play_answer}
use Rattle.counter_model.specs.Counter.{counter_numbers, readings_at}
use Rattle.counter_model.specs.CounterPlayer.{CounterArrival, counter_answer}

-- ---- the provisos

-- P holds at each step, of the time before it and of its own; before the first step it is t
abbrev pub EachStepFrom : (t : ℕ) → (times : List ℕ) → (P : (before now : ℕ) → Type 0) → Type 0
EachStepFrom t ts P = (n : ℕ) → n < length ts → P (get_or (t ∷ ts) n 0) (get_or ts n 0)

abbrev pub NeverFallFrom : (t : ℕ) → (times : List ℕ) → Type 0
NeverFallFrom t ts = EachStepFrom t ts (λ before now. before ≤ now)

-- fewer than 65,536 ticks pass at each step
abbrev pub FewTicksFrom : (t : ℕ) → (times : List ℕ) → Type 0
FewTicksFrom t ts = EachStepFrom t ts (λ before now. now - before < counter_numbers)

-- a step list begins at tick 0
abbrev pub NeverFall : (times : List ℕ) → Type 0
NeverFall ts = NeverFallFrom 0 ts

-- none is over 16,777,215
abbrev pub NoneLate : (times : List ℕ) → Type 0
NoneLate ts = EachStepFrom 0 ts (λ before now. now ≤ largest_time)

-- at each step, the first too
abbrev pub FewTicks : (times : List ℕ) → Type 0
FewTicks ts = FewTicksFrom 0 ts

-- at each step after the first
abbrev pub FewTicksAfterFirst : (times : List ℕ) → Type 0
FewTicksAfterFirst [] = Unit {0}
FewTicksAfterFirst (t ∷ ts) = FewTicksFrom t ts

-- document 02's provisos
pub record Spaced (times : List ℕ) : Type 0 where
  pub never_fall : NeverFall times
  pub none_late : NoneLate times
  pub few_ticks : FewTicks times

-- the same but for the ticks before the first step: enough on files, since 10 refuses tests of transitions from the initial location
pub record SpacedAfterFirst (times : List ℕ) : Type 0 where
  pub never_fall : NeverFall times
  pub none_late : NoneLate times
  pub few_ticks : FewTicksAfterFirst times

-- ---- the claim

-- an answer of the player but for the time
unfoldable pub without_time : Answer Arrival → Answer CounterArrival
without_time x = then x (λ a. returned (record { location = a.location; accepting = a.accepting }))

-- The counter board, called on the file bs' with the chart c', answers as the player, called on the file bs with the chart c: from any counts that 12
-- allows in each, whatever the counter shows at tick 0, for every step list whose times keep the provisos, on the readings at these times. One claim
-- about whole lists: the same location and acceptance, or the same refusal at the same step.
pub record CounterAsPlayer (Provisos : List ℕ → Type 0) (bs : List ℕ) (c : Chart) (bs' : List ℕ) (c' : Chart) : Type 0 where
  pub answers : (v w : List ℕ) (first : ℕ) (is ts : List ℕ) → CountsAllowed c v → CountsAllowed c' w → first < counter_numbers → Provisos ts
      → counter_answer bs' w is first (readings_at first ts) ≡ without_time (play_answer bs v is ts)
  -- and so after each n of its steps: the same ones are taken
  pub steps : (v w : List ℕ) (first : ℕ) (is ts : List ℕ) → CountsAllowed c v → CountsAllowed c' w → first < counter_numbers → Provisos ts
      → (n : ℕ) → counter_answer bs' w (take n is) first (take n (readings_at first ts)) ≡ without_time (play_answer bs v (take n is) (take n ts))

-- The counter board, called on two files, answers alike: from any counts that 12 allows in each, whatever the counter shows at tick 0 in each, at any
-- readings.
pub record SameOnCounter (bs : List ℕ) (c : Chart) (bs' : List ℕ) (c' : Chart) : Type 0 where
  pub answers : (v w : List ℕ) (first first' : ℕ) (is rs : List ℕ) → CountsAllowed c v → CountsAllowed c' w
      → counter_answer bs v is first rs ≡ counter_answer bs' w is first' rs
