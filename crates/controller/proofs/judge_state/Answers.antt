-- `judge_state` judges the heads, then the state by 32.
use mathlib.Core.Path.{sym, ◌∙◌}
use Rattle.controller_model.proofs.SetUp.{heads_accepted}
use Rattle.heads.proofs.Judging.{refused_lem}
use Rattle.controller.proofs.Judging.{accepted_ready, heads_refused, state_answer}
use Rattle.controller.proofs.judge_state.Goals as goal

pub returns-in_err-headers : goal.returns-in_err-headers
returns-in_err-headers c = refused_lem _ _ c.from_residual.ensures.1 (heads_refused _ _ _ _ c.in_err-headers.ensures)

pub sound_state-requires : goal.sound_state-requires
sound_state-requires c =
    let p = c.in_ok-headers.ensures in
    let r = accepted_ready (heads_accepted p.1) p.2 in
    (p.0, r.number, r.headers_of, r.fits)

pub returns-then-not-sound_state : goal.returns-then-not-sound_state
returns-then-not-sound_state c =
    let p = c.in_ok-headers.ensures in
    let r = accepted_ready (heads_accepted p.1) p.2 in
    let sounded = c.sound_state.ensures p.0 r.number r.headers_of r.fits in
    state_answer _ _ _ _ p.1 (sym c.if-not-sound_state.true ∙ sounded)

pub returns : goal.returns
returns c =
    let p = c.in_ok-headers.ensures in
    let r = accepted_ready (heads_accepted p.1) p.2 in
    let sounded = c.sound_state.ensures p.0 r.number r.headers_of r.fits in
    (p.0, state_answer _ _ _ _ p.1 (sym c.if-not-sound_state.false ∙ sounded), p.2)
