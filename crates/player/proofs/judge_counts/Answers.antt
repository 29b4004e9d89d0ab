-- `judge_counts` judges 12. The laws of 12 take the code's tests as they are.
use mathlib.Core.Path.{sym, ◌∙◌}
use Rattle.model.specs.Answer.{returned}
use Rattle.player.proofs.Inputs.{number_refused, count_refused, counts_passed}
use Rattle.player.proofs.judge_counts.Goals as goal

pub returns-then-counts-timers : goal.returns-then-counts-timers
returns-then-counts-timers c = λ ch e. number_refused ch _ (returned tt) (λ p. c.if-counts-timers.true (p ∙ sym e))

pub returns-then-first-counts : goal.returns-then-first-counts
returns-then-first-counts c = λ ch e.
    count_refused ch _ (returned tt) (c.if-counts-timers.false ∙ e) c.first_too_large-first.ensures c.if-first-counts.true

pub returns : goal.returns
returns c = λ ch e. counts_passed ch _ (returned tt) (c.if-counts-timers.false ∙ e) c.first_too_large-first.ensures c.if-first-counts.false
