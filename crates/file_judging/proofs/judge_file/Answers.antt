-- A file whose parts are all good, and that ends with them, is its chart's.
use mathlib.Core.Path.{sym}
use Rattle.file_format.proofs.Frame.{end_at}
use Rattle.file_judging.proofs.JudgeParts.{judge_good}
use Rattle.file_judging.proofs.judge_file.Goals as goal

pub returns : goal.returns
returns c =
    judge_good c.args.s.now (sym c.in-Ok.ensures) (sym c.in-Ok-b.ensures) (sym c.in-Ok-d.ensures) (end_at c.args.s.now _ c.if-end-s.false)
