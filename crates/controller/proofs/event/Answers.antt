-- `event` judges heads and state, then the event.
use native.Mathlib.Omega.{arith}
use Rattle.controller_model.proofs.SetUp.{heads_accepted, state_passed}
use Rattle.controller.proofs.Judging.{refused_call, passed_call, accepted_number, called_refused, called_passed}
use Rattle.controller.proofs.event.Goals as goal

pub returns-in_err-judge_state : goal.returns-in_err-judge_state
returns-in_err-judge_state c =
    let r = refused_call _ _ _ c.from_residual.ensures.1 (called_refused _ _ _ _ _ c.in_err-judge_state.ensures) in
    record { answer = r.0; state = r.1 }

pub receive-requires : goal.receive-requires
receive-requires c =
    let p = c.in_ok-judge_state.ensures in
    omega (arith, accepted_number (heads_accepted (state_passed _ _ _ _ p.1).0), p.2.few)

pub returns : goal.returns
returns c =
    let p = c.in_ok-judge_state.ensures in
    let n = accepted_number (heads_accepted (state_passed _ _ _ _ p.1).0) in
    let r = passed_call _ (called_passed _ _ _ _ _ p.1) (c.receive.ensures.answer _ p.0 n) (c.receive.ensures.state _ p.0 n) in
    record { answer = r.0; state = r.1 }
