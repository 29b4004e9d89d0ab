-- `turn` judges heads and state, then takes the turn.
use mathlib.Core.Path.{ap}
use Rattle.model.specs.Answer.{returned}
use Rattle.controller_model.proofs.SetUp.{heads_accepted, state_passed}
use Rattle.controller_model.specs.Controlling.{turn, done_by, reported}
use Rattle.controller.proofs.Judging.{accepted_ready, called_refused, called_passed}
use Rattle.controller.proofs.Turns.{refused_turn}
use Rattle.controller.proofs.turn.Goals as goal

pub returns-in_err-headers : goal.returns-in_err-headers
returns-in_err-headers c =
    let r = refused_turn _ _ _ c.from_residual.ensures.1 (called_refused _ _ _ _ _ c.in_err-headers.ensures) in
    record { answer = r.0; state = r.1 }

pub take_turn-requires : goal.take_turn-requires
take_turn-requires c =
    let p = c.in_ok-headers.ensures in
    let s = state_passed _ _ _ _ p.1 in
    (p.0, accepted_ready (heads_accepted s.0) p.2, s.1)

pub returns : goal.returns
unfolding done_by reported
returns c =
    let p = c.in_ok-headers.ensures in
    let s = state_passed _ _ _ _ p.1 in
    let ready = accepted_ready (heads_accepted s.0) p.2 in
    record {
      answer = rw (called_passed _ _ _ _ turn p.1) (ap returned (c.take_turn.ensures.answer p.0 ready s.1));
      state = rw (called_passed _ _ _ _ turn p.1) (c.take_turn.ensures.state p.0 ready s.1);
    }
