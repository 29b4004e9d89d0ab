-- The refusals of the counter board: their numbers and their places, and what 18 and what a result say of what is handed in (document 02, P5).
use Rattle.std.specs.Prelude.{◌≡◌, ◌⊎◌, true, false, List, [], ◌∷◌, ℕ, ◌<◌, length, get_or}
use Rattle.lists.specs.Lists.{memb}
use Rattle.model.specs.Answer.{returned, nowhere}
use Rattle.model.specs.Chart.{Chart}
use Rattle.model.specs.Version.{large_constant, LargeConstant}
use Rattle.model.specs.PlayerTerms.{CountsAllowed}
use Rattle.judgement.specs.Charts.{Accepts}
use Rattle.judgement.specs.Refusals.{RefusalOfJudgement}
use Rattle.counter_model.specs.CounterPlayer.{CounterArrival, counter_answer_of}

-- 1 to 10 of the judgement; 12 with none or a timer, 13 and 18 with none; 14, 22, 24 with the number of a step
pub data RefusalOfCounter (steps n p : ℕ) : Type 0 where
  of_judgement : RefusalOfJudgement n p → RefusalOfCounter steps n p
  of_counts : n ≡ 12 → (p ≡ nowhere) ⊎ (p < 64) → RefusalOfCounter steps n p
  of_lengths : n ≡ 13 → p ≡ nowhere → RefusalOfCounter steps n p
  of_constants : n ≡ 18 → p ≡ nowhere → RefusalOfCounter steps n p
  of_step : memb n (14 ∷ 22 ∷ 24 ∷ []) ≡ true → p < steps → RefusalOfCounter steps n p

-- 18: 1 to 10, 12 and 13 pass, and some test of the chart has a constant over 65,535, on whichever transition, one that leaves a spare location too
pub record ConstantRefused (bs counts transitions readings : List ℕ) : Type 0 where
  pub chart : Chart
  pub accepts : Accepts bs chart
  pub counts_allowed : CountsAllowed chart counts
  pub one_length : length transitions ≡ length readings
  pub large : LargeConstant chart

-- a result: 1 to 10, 12, 13 and 18 pass, and it is what the steps come to
pub record CounterArrived (bs counts transitions : List ℕ) (first : ℕ) (readings : List ℕ) (a : CounterArrival) : Type 0 where
  pub chart : Chart
  pub accepts : Accepts bs chart
  pub counts_allowed : CountsAllowed chart counts
  pub one_length : length transitions ≡ length readings
  pub small_constants : large_constant chart ≡ false
  pub steps : counter_answer_of chart first (λ j. get_or counts j 0) transitions readings ≡ returned a
