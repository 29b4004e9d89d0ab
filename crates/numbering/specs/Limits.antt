-- What the judgement of a board's limit says of a chart's rewriting: 11, 20, or the chart with its board numbers.
use Rattle.std.specs.Prelude.{◌≡◌, ℕ, ◌≤◌, Result, Ok, Err}
use Rattle.model.specs.Answer.{Answer, returned}
use Rattle.model.specs.Chart.{Chart}
use Rattle.model.specs.Spare.{reached_part}
use Rattle.model.specs.FirstFit.{used}
use Rattle.model.specs.Rewrite.{rewritten}
use Rattle.model.specs.Judge.{Rewriting, fitted}
use Rattle.refusal.specs.declared.Refusal.{Refusal}
use Rattle.refusal.specs.Refused.{answer_by}

-- what an answer of the code means for a chart
abbrev pub limit_as : Result (Unit {0}) Refusal → Chart → Answer Rewriting
limit_as r c = answer_by (λ (_ : Unit {0}). record { used = used (reached_part c); chart = rewritten c }) r

-- a board of k timers, of which so many are used: the answer is that of the definition, and where there are enough, they are no more than 64
pub record LimitJudged (k count : ℕ) (r : Result (Unit {0}) Refusal) : Type 0 where
  pub answer : (c : Chart) → count ≡ used (reached_part c) → limit_as r c ≡ fitted k c
  pub fits : r ≡ Ok tt → (count ≤ k) × (k ≤ 64)
