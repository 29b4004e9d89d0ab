-- `set_up` judges the heads, then makes the state.
use native.Mathlib.Omega.{arith}
use Rattle.controller.proofs.SetUps.{set_up_refused, as_many_charts, counts_fit, set_up_is}
use Rattle.controller.proofs.set_up.Goals as goal

pub returns-in_err-headers : goal.returns-in_err-headers
returns-in_err-headers c =
    let r = set_up_refused _ _ _ _ _ _ _ _ c.from_residual.ensures.1 c.in_err-headers.ensures in
    record { answer = r.0; state = r.1 }

pub start_heads-requires : goal.start_heads-requires
start_heads-requires c =
    let p = c.in_ok-headers.ensures in
    omega (arith, as_many_charts _ _ _ _ _ p.1, p.2.few)

pub start_counts-requires : goal.start_counts-requires
start_counts-requires c =
    let p = c.in_ok-headers.ensures in
    record { n_bound = omega (arith, as_many_charts _ _ _ _ _ p.1, p.2.few); counts_fit = counts_fit _ _ _ _ _ p.1 }

pub returns : goal.returns
returns c =
    let p = c.in_ok-headers.ensures in
    let n = as_many_charts _ _ _ _ _ p.1 in
    let r = set_up_is _ _ _ _ _ p.1 _ (c.start_heads.ensures p.0 n p.2) c.start_counts.ensures in
    record { answer = r.0; state = r.1 }
