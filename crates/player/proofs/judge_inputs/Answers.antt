-- `judge_inputs` judges 12 and then 13. The laws take the code's tests as they are.
use Rattle.std.proofs.lemmas.Result.{err_from_is_err_and}
use Rattle.player.proofs.Inputs.{counts_first, lengths_refused, lengths_passed}
use Rattle.player.proofs.judge_inputs.Goals as goal

pub returns-in_err-judge_counts : goal.returns-in_err-judge_counts
returns-in_err-judge_counts c = λ ch e.
    let p = err_from_is_err_and c.from_residual.result c.from_residual.ensures.1 in
    rw (p.1, p.2) (counts_first ch _ _ _ (c.in_err-judge_counts.ensures ch e))

pub returns-then-transitions-moments : goal.returns-then-transitions-moments
returns-then-transitions-moments c = λ ch e.
    lengths_refused ch _ _ _ (c.in_ok-judge_counts.ensures ch e) c.if-transitions-moments.true

pub returns : goal.returns
returns c = λ ch e. lengths_passed ch _ _ _ (c.in_ok-judge_counts.ensures ch e) c.if-transitions-moments.false
