-- How a state of the code shows a state of the counter board, and what the code answers to a step.
use Rattle.std.specs.Prelude.{◌≡◌, Result}
use Rattle.model.specs.Answer.{Answer}
use Rattle.refusal.specs.declared.Refusal.{Refusal}
use Rattle.steps.specs.Counts.{CountsAgree}
use Rattle.steps.specs.Stepping.{Decided}
use Rattle.counter_model.specs.CounterRun.{CounterState}
use Rattle.counter_player.specs.declared.stepping.State.{State}

-- the same location, the same reading at the last step, and the same counts of the 64 timers that a chart can have
pub record Shows (x : State) (s : CounterState) : Type 0 where
  pub location : x.location ≡ s.location
  pub last : x.last ≡ s.last
  pub counts : CountsAgree x.counts s.counts

-- x is left in the lent place, and shows the state
abbrev pub LeftAs : (x : State) → Unit {0} → CounterState → Type 0
LeftAs x done = Shows x

-- the code's answer is the definition's: a state that the code's new state x shows, or the same refusal
abbrev pub Answered : (x : State) → Result (Unit {0}) Refusal → Answer CounterState → Type 0
Answered x r a = Decided (LeftAs x) r a
