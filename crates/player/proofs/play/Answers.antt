-- `play` judges the file, and plays on the chart that is left.
use mathlib.Core.Path.{sym, subst}
use Rattle.std.proofs.lemmas.Result.{err_from_is_err_and}
use Rattle.chart_lists.specs.Holds.{Holds}
use Rattle.judgement.proofs.Callers.{judged_chart}
use Rattle.player.proofs.Files.{holds_played, accepted_answer, refused_answer}
use Rattle.player.proofs.play.Goals as goal

pub returns-in_err-header : goal.returns-in_err-header
returns-in_err-header c =
    let p = err_from_is_err_and c.from_residual.result c.from_residual.ensures.1 in
    rw (p.1, p.2) (refused_answer _ _ _ _ c.in_err-header.ensures.answer)

pub play_chart-requires : goal.play_chart-requires
play_chart-requires c =
    let j = judged_chart _ c.in_ok-header.ensures.answer in
    let held = subst (Holds j.chart) (sym c.lists.ensures) (c.in_ok-header.ensures.lists j.chart j.reads) in
    (j.chart, j.header_is, holds_played held)

pub returns : goal.returns
returns c =
    let j = judged_chart _ c.in_ok-header.ensures.answer in
    let held = subst (Holds j.chart) (sym c.lists.ensures) (c.in_ok-header.ensures.lists j.chart j.reads) in
    accepted_answer _ _ _ _ j (c.play_chart.ensures j.chart j.header_is (holds_played held))
