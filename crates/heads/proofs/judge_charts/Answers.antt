-- `judge_charts` judges the number of heads, their files and the board.
use mathlib.Core.Logic.{inl, inr}
use Rattle.heads.proofs.Judging.{refused_lem, wrong_number, files_refused, limit_refused, charts_allowed}
use Rattle.heads.proofs.judge_charts.Goals as goal
use Rattle.heads.proofs.judge_charts.Goals.{then-number-eq0-via-then-number-eq0, then-number-eq0-via-else-number-eq0+then-number}

pub returns-then-number-eq0 : goal.returns-then-number-eq0
returns-then-number-eq0 c = wrong_number c.args.setting.files.now c.args.setting.heads c.args.setting.k (
    elim c.then-number-eq0.branch [
      | then-number-eq0-via-then-number-eq0 w ↦ inl w.if-number-eq0.true
      | then-number-eq0-via-else-number-eq0+then-number w ↦ inr w.if-number.true
    ])

pub returns-in_err-headers : goal.returns-in_err-headers
returns-in_err-headers c =
    refused_lem _ _ c.from_residual.ensures.1 (files_refused _ _ _ c.if-number-eq0.false c.if-number.false c.in_err-headers.ensures)

pub returns-then-setting : goal.returns-then-setting
returns-then-setting c = limit_refused _ _ _ c.if-number-eq0.false c.if-number.false c.in_ok-headers.ensures.1 c.if-setting.true

pub returns : goal.returns
returns c =
    let e = c.in_ok-headers.ensures in
    (e.0, charts_allowed _ _ _ c.if-number-eq0.false c.if-number.false e.1 c.if-setting.false, e.2)
