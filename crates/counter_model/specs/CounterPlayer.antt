-- The counter board's player on a chart file: 1 to 10, 12, 13, 18, then step by step 14, 22, 24 (document 02, P5).
use Rattle.std.specs.Prelude.{Bool, not, List, ℕ, eqb, length, get_or}
use Rattle.model.specs.Answer.{Answer, returned, then, unless, nowhere}
use Rattle.model.specs.Chart.{Chart}
use Rattle.model.specs.Version.{large_constant}
use Rattle.model.specs.Run.{Counts, accepts}
use Rattle.model.specs.Player.{counts_judged}
use Rattle.judgement.specs.Judging.{judged_in}
use Rattle.counter_model.specs.CounterRun.{CounterState, counter_outcome}

-- where a list of steps ends; the board does not tell the time
pub record CounterArrival : Type 0 where
  pub location : ℕ
  pub accepting : Bool

-- the arrival of a state
unfoldable pub counter_arrival : Chart → CounterState → Answer CounterArrival
counter_arrival c s = returned (record { location = s.location; accepting = accepts c s.location })

-- the answer of a step list: what it comes to, without reading and counts
unfoldable pub counter_answer_of : Chart → (first : ℕ) → Counts → (transitions readings : List ℕ) → Answer CounterArrival
counter_answer_of c first v is rs = then (counter_outcome c first v is rs) (counter_arrival c)

-- what it makes of a chart that is judged: 12 and 13 as the player, then 18 where some constant is over 65,535
abbrev pub counter_played_on : (counts transitions : List ℕ) → (first : ℕ) → (readings : List ℕ) → Chart → Answer CounterArrival
counter_played_on counts is first rs c =
    counts_judged c counts (
    unless (eqb (length is) (length rs)) 13 nowhere (
    unless (not (large_constant c)) 18 nowhere (
    counter_answer_of c first (λ j. get_or counts j 0) is rs)))

-- on a file: the judgement first
unfoldable pub counter_answer : (file counts transitions : List ℕ) → (first : ℕ) → (readings : List ℕ) → Answer CounterArrival
counter_answer bs counts is first rs = then (judged_in bs) (counter_played_on counts is first rs)
