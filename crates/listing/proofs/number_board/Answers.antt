-- `number_board`: a refusal of the judgement, then 11 and 20, else the numbers of the chart.
use mathlib.Core.Path.{◌∙◌}
use Rattle.std.proofs.lemmas.Result.{err_from_is_err_and}
use Rattle.model.proofs.Answers.{result_refused}
use Rattle.numbering.proofs.NumberedFile.{file_chart, file_refused}
use Rattle.listing.proofs.Accepted.{accepted_refused, accepted_judged, listed_refused, listed_enough}
use Rattle.listing.proofs.Board.{board_answer, board_refused, judged_accepted}
use Rattle.listing.proofs.number_board.Goals as goal

pub returns-in_err-numbers : goal.returns-in_err-numbers
returns-in_err-numbers c =
    let K = c.args.limit in
    let file = c.args.file.now in
    let p = err_from_is_err_and c.from_residual.result c.from_residual.ensures.1 in
    let e = accepted_refused K file (file_refused file c.in_err-numbers.ensures.answer) in
    record { answer = rw (p.1, p.2) (board_refused K file e); lists = λ d a. absurd (result_refused a e) }

pub returns-in_err-judge_limit : goal.returns-in_err-judge_limit
returns-in_err-judge_limit c =
    let K = c.args.limit in
    let file = c.args.file.now in
    let n = file_chart file c.in_ok-numbers.ensures.answer in
    let p = err_from_is_err_and c.from_residual-in_err-judge_limit.result c.from_residual-in_err-judge_limit.ensures.1 in
    let e = accepted_judged K file n.judged ∙ listed_refused K n.chart c.in_err-judge_limit.ensures n.used_is in
    record { answer = rw (p.1, p.2) (board_refused K file e); lists = λ d a. absurd (result_refused a e) }

pub returns : goal.returns
returns c =
    let K = c.args.limit in
    let file = c.args.file.now in
    let n = file_chart file c.in_ok-numbers.ensures.answer in
    let e = accepted_judged K file n.judged ∙ listed_enough K n.chart c.in_ok-judge_limit.ensures n.used_is in
    record { answer = board_answer K file e n.numbers_are; lists = λ d a. c.in_ok-numbers.ensures.lists d (judged_accepted K file a) }
