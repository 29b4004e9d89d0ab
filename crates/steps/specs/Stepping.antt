-- How a state of the code shows a state of a run, and what the code answers to a step.
use Rattle.std.specs.Prelude.{◌≡◌, ℕ, ◌+◌, ◌≤◌, ◌<◌, length, get_or, Result, IsOkAnd}
use Rattle.model.specs.Answer.{Answer, returned, refused}
use Rattle.model.specs.Run.{Step, State as Run-as-State, largest_time}
use Rattle.refusal.specs.declared.Reason.{Reason}
use Rattle.refusal.specs.declared.Refusal.{Refusal}
use Rattle.refusal.specs.Refused.{answer_as}
use Rattle.steps.specs.declared.State.{State}
use Rattle.steps.specs.Counts.{CountsAgree}

-- the same location, the same time, and the same counts of the 64 timers that a chart can have
pub record Shows (x : State) (s : Run-as-State) : Type 0 where
  pub location : x.location ≡ s.location
  pub time : x.time ≡ s.time
  pub counts : CountsAgree x.counts s.counts

-- 64 counts, each at most the largest starting count and the time that has passed since
pub record Small (x : State) : Type 0 where
  pub number : length x.counts ≡ 64
  pub bound : (j : ℕ) → j < 64 → get_or x.counts j 0 ≤ largest_time + x.time

-- a step of the list, by its transition and its time
abbrev pub step_at : (transition time : ℕ) → Step
step_at i t = record { transition = i; time = t }

-- step number n is refused
abbrev pub refusal_at : Reason → (n : ℕ) → Refusal
refusal_at why n = record { reason = why; place = n }

-- a result of the code is the answer of a definition: values of which P holds; or the same refusal
abbrev pub Decided : {A S : Type 0} → (P : A → S → Type 0) → Result A Refusal → Answer S → Type 0
Decided P r (returned s) = IsOkAnd r (λ x. P x s)
Decided P r (refused k p) = answer_as r ≡ refused k p

-- the code's answer is that of the run: a state that the code's state shows, or the same refusal
abbrev pub Answered : Result State Refusal → Answer Run-as-State → Type 0
Answered r a = Decided Shows r a
