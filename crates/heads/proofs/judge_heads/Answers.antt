-- `judge_heads` judges the blocks behind the charts.
use Rattle.heads.proofs.Judging.{refused_lem}
use Rattle.heads.proofs.AfterCharts.{all_passed, few_heads, charts_refused, blocks_answer}
use Rattle.heads.proofs.judge_heads.Goals as goal

pub returns-in_err-headers : goal.returns-in_err-headers
returns-in_err-headers c = refused_lem _ _ c.from_residual.ensures.1 (charts_refused _ _ _ c.in_err-headers.ensures)

pub blocks_fit-requires : goal.blocks_fit-requires
blocks_fit-requires c = few_heads _ _ _ _ (all_passed _ _ _ _ c.in_ok-headers.ensures)

pub returns-then-not-blocks_fit : goal.returns-then-not-blocks_fit
returns-then-not-blocks_fit c =
    blocks_answer _ _ _ _ (all_passed _ _ _ _ c.in_ok-headers.ensures) c.blocks_fit.ensures c.if-not-blocks_fit.true

pub returns : goal.returns
returns c =
    let passed = all_passed _ _ _ _ c.in_ok-headers.ensures in
    (passed.charts, blocks_answer _ _ _ _ passed c.blocks_fit.ensures c.if-not-blocks_fit.false, passed.headers_are)
