-- `judge_set_up` judges the starting counts and the blocks behind the charts.
use native.Mathlib.Omega.{arith}
use Rattle.heads.proofs.Judging.{refused_lem}
use Rattle.heads.proofs.AfterCharts.{all_passed, few_heads, set_up_refused, counts_refused, set_up_answer}
use Rattle.heads.proofs.judge_set_up.Goals as goal

pub returns-in_err-headers : goal.returns-in_err-headers
returns-in_err-headers c = refused_lem _ _ c.from_residual.ensures.1 (set_up_refused _ _ _ c.in_err-headers.ensures _ _)

pub judge_counts-requires : goal.judge_counts-requires
judge_counts-requires c = omega (arith, few_heads _ _ _ _ (all_passed _ _ _ _ c.in_ok-headers.ensures))

pub returns-in_err-judge_counts : goal.returns-in_err-judge_counts
returns-in_err-judge_counts c =
    let passed = all_passed _ _ _ _ c.in_ok-headers.ensures in
    refused_lem _ _ c.from_residual-in_err-judge_counts.ensures.1
    (counts_refused _ _ _ _ _ _ passed (λ cs e. c.in_err-judge_counts.ensures cs (omega (arith, e))))

pub blocks_fit-requires : goal.blocks_fit-requires
blocks_fit-requires c = few_heads _ _ _ _ (all_passed _ _ _ _ c.in_ok-headers.ensures)

pub returns-then-not-blocks_fit : goal.returns-then-not-blocks_fit
returns-then-not-blocks_fit c =
    let passed = all_passed _ _ _ _ c.in_ok-headers.ensures in
    set_up_answer _ _ _ _ _ _ passed (λ cs e. c.in_ok-judge_counts.ensures cs (omega (arith, e))) c.blocks_fit.ensures c.if-not-blocks_fit.true

pub returns : goal.returns
returns c =
    let passed = all_passed _ _ _ _ c.in_ok-headers.ensures in (
      passed.charts,
      set_up_answer _ _ _ _ _ _ passed (λ cs e. c.in_ok-judge_counts.ensures cs (omega (arith, e))) c.blocks_fit.ensures c.if-not-blocks_fit.false,
      passed.headers_are,
    )
