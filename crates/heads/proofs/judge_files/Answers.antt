-- `judge_files` judges one file after another and stores the headers of their charts.
use mathlib.Core.Path.{◌≡◌, refl, ap, ◌∙◌}
use native.Mathlib.Omega.{arith}
use Rattle.judgement.specs.Judging.{judged_header}
use Rattle.judgement.proofs.Callers.{judged_refused, judged_chart, accepted_in}
use Rattle.heads.proofs.InOrder.{none_judged, next_judged, file_refused, files_passed}
use Rattle.heads.proofs.Judging.{refused_lem}
use Rattle.heads.proofs.judge_files.Goals as goal

pub loop-h-init : goal.loop-h-init
loop-h-init c = none_judged _ refl

pub returns-in_err-headers : goal.returns-in_err-headers
returns-in_err-headers c =
    let refused = judged_refused _ (c.in_err-headers.ensures ∙ ap judged_header c.file.ensures) in
    refused_lem _ _ c.from_residual.ensures.1 (file_refused c.args.setting.files.now c.args.setting.heads c.loop-h.invariant (omega arith) refused)

pub loop-h-preserved : goal.loop-h-preserved
loop-h-preserved c =
    let a = judged_chart _ (c.in_ok-headers.ensures ∙ ap judged_header c.file.ensures) in
    next_judged _ c.loop-h.invariant (omega arith) (accepted_in a) a.header_is

pub returns : goal.returns
returns c =
    let e : c.loop-h.h ≡ c.args.setting.heads.number = omega arith in
    (c.loop-h.invariant.charts, files_passed c.args.setting.files.now c.args.setting.heads c.loop-h.invariant e, c.loop-h.invariant.headers_are)
