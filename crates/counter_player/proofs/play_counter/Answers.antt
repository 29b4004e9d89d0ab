-- `play_counter` judges the file, and plays on the chart that is left.
use Rattle.std.proofs.Common.{sym, subst, ◌∙◌}
use Rattle.std.proofs.lemmas.Result.{err_from_is_err_and}
use Rattle.chart_lists.specs.Holds.{Holds}
use Rattle.judgement.proofs.Callers.{judged_chart, accepted_then, refused_then}
use Rattle.player.proofs.Files.{holds_played}
use Rattle.counter_model.specs.CounterPlayer.{counter_played_on, counter_answer}
use Rattle.counter_player.proofs.play_counter.Goals as goal

pub returns-in_err-header : goal.returns-in_err-header
unfolding counter_answer
returns-in_err-header c =
    let onward = counter_played_on c.args.counts.now c.args.transitions.now c.args.first c.args.readings.now in
    let p = err_from_is_err_and c.from_residual.result c.from_residual.ensures.1 in
    rw (p.1, p.2) (refused_then onward c.args.file.now c.in_err-header.ensures.answer)

pub play_chart-requires : goal.play_chart-requires
play_chart-requires c =
    let j = judged_chart _ c.in_ok-header.ensures.answer in
    let held = subst (Holds j.chart) (sym c.lists.ensures) (c.in_ok-header.ensures.lists j.chart j.reads) in
    (j.chart, j.header_is, holds_played held)

pub returns : goal.returns
unfolding counter_answer
returns c =
    let onward = counter_played_on c.args.counts.now c.args.transitions.now c.args.first c.args.readings.now in
    let j = judged_chart _ c.in_ok-header.ensures.answer in
    let held = subst (Holds j.chart) (sym c.lists.ensures) (c.in_ok-header.ensures.lists j.chart j.reads) in
    c.play_chart.ensures j.chart j.header_is (holds_played held) ∙ accepted_then onward j
