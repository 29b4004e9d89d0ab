-- Calls on which the counter board and the player answer differently, each with one proviso of the claim left out and all others kept; and a chart on
-- which the board answers otherwise than on the rewritten one. That each proviso is needed is shown in proofs/Needed.
use Rattle.std.specs.Prelude.{◌≡◌, false, List, [], ◌∷◌, ℕ, suc, ◌*◌, ◌<◌, get_or, replicate}
use Rattle.comparison.specs.declared.Comparison.TheVariants.{AtMost}
use Rattle.lists.specs.Lists.{up_to}
use Rattle.model.specs.Answer.{Answer, returned}
use Rattle.model.specs.Chart.{Chart}
use Rattle.model.specs.Version.{large_constant}
use Rattle.model.specs.Run.{player_time}
use Rattle.model.specs.Player.{answer_of, steps_of}
use Rattle.model.specs.PlayerTerms.{CountsAllowed}
use Rattle.model.specs.Cases.{arrow, test, drawn, B, self_loop}
use Rattle.file_format.specs.File.{file_of}
use Rattle.judgement.specs.Judging.{judged_in}
use Rattle.player.specs.Playing.{play_answer}
use Rattle.counter_model.specs.Counter.{counter_numbers, readings_at}
use Rattle.counter_model.specs.CounterPlayer.{CounterArrival, counter_answer_of, counter_answer}
use Rattle.counter_model.specs.CounterClaim.{without_time}
use Rattle.counter_model.specs.Cases.{three_tests}

-- a step list with its times, on a chart from starting counts, and what the counter shows at tick 0
pub record Example : Type 0 where
  pub chart : Chart
  pub counts : List ℕ
  pub transitions : List ℕ
  pub times : List ℕ
  pub first : ℕ

module _ (x : Example) where
  -- what the board answers, called on the chart's file with the readings at these times, and what the player, without the time
  unfoldable pub board_called : Answer CounterArrival
  board_called = counter_answer (file_of x.chart) x.counts x.transitions x.first (readings_at x.first x.times)

  unfoldable pub player_called : Answer CounterArrival
  player_called = without_time (play_answer (file_of x.chart) x.counts x.transitions x.times)

  -- what the step list itself comes to on each, whatever the file would be refused with
  unfoldable pub board_steps : Answer CounterArrival
  board_steps = counter_answer_of x.chart x.first (λ j. get_or x.counts j 0) x.transitions (readings_at x.first x.times)

  unfoldable pub player_steps : Answer CounterArrival
  player_steps = without_time (answer_of player_time x.chart (λ j. get_or x.counts j 0) (steps_of x.transitions x.times))

  -- what the claim asks of a call beside the constants and the times: the file is accepted, and 12 allows the counts
  pub record Callable : Type 0 where
    pub accepted : judged_in (file_of x.chart) ≡ returned x.chart
    pub counts_allowed : CountsAllowed x.chart x.counts
    pub first_small : x.first < counter_numbers

  -- no constant is over 65,535
  abbrev pub SmallConstants : Type 0
  SmallConstants = large_constant x.chart ≡ false

-- B, 0 and 1 at 5 and 4: the time falls
unfoldable pub falling : Example
falling = record { chart = B; counts = 7 ∷ 7 ∷ []; transitions = 0 ∷ 1 ∷ []; times = 5 ∷ 4 ∷ []; first = 0 }

-- the self-loop 257 times, 65,535 ticks apart: the last time is 16,842,495
unfoldable pub late : Example
late = record { chart = self_loop; counts = 0 ∷ []; transitions = replicate 257 0; times = up_to (λ n. 65535 * suc n) 257; first = 0 }

-- B, 0 and 1 at 5 and 65,542: 65,537 ticks apart
unfoldable pub long_wait : Example
long_wait = record { chart = B; counts = 7 ∷ 7 ∷ []; transitions = 0 ∷ 1 ∷ []; times = 5 ∷ 65542 ∷ []; first = 0 }

-- one location, 0→0 tests 0 at most 5, at 65,536. The chart is refused 10, as is every test on a transition that leaves the initial location. On a
-- file there is no such example (`file_claim` in proofs/FileClaim): each timer that a test reads is started at a step before, so its count does not
-- hold the ticks of the first
unfoldable pub long_first_wait : Example
long_first_wait = record {
  chart = drawn 1 0 1 (arrow 0 0 [] (test 0 AtMost 5 ∷ []) ∷ []);
  counts = 0 ∷ [];
  transitions = 0 ∷ [];
  times = 65536 ∷ [];
  first = 0;
}

-- a test above 65,536, 80,000 ticks after its timer's start
unfoldable pub large : Example
large = record { chart = three_tests 2 65536; counts = 0 ∷ []; transitions = 0 ∷ 1 ∷ 2 ∷ []; times = 0 ∷ 40000 ∷ 80000 ∷ []; first = 0 }

-- transition 0 at 5
unfoldable pub single_step : Chart → (counts : List ℕ) → Example
single_step c v = record { chart = c; counts = v; transitions = 0 ∷ []; times = 5 ∷ []; first = 0 }

-- no steps
unfoldable pub no_steps : Chart → (counts : List ℕ) → Example
no_steps c v = record { chart = c; counts = v; transitions = []; times = []; first = 0 }
