-- `sound_state` looks at the turn, then at one head after another.
use mathlib.Core.Path.{sym, ◌∙◌}
use native.Mathlib.Omega.{arith}
use Rattle.controller.proofs.Every.{pass_none, pass_more}
use Rattle.controller.proofs.SoundStates.{on_board, sound_at_lem, no_such_turn, head_unsound, all_sound}
use Rattle.controller.proofs.state.sound_state.Goals as goal

pub returns-then-state-n : goal.returns-then-state-n
returns-then-state-n c = λ cs e are fits. no_such_turn _ cs _ (omega (arith, e, c.if-state-n.true))

pub loop-h-init : goal.loop-h-init
loop-h-init c = λ cs e are fits. pass_none _

pub sound_head-requires : goal.sound_head-requires
sound_head-requires c = on_board c.requires.2 c.requires.3 c.loop-h.h (omega (arith, c.requires.1)) c.begin_of-o.ensures

pub returns-then-not-sound_head : goal.returns-then-not-sound_head
returns-then-not-sound_head c = λ cs e are fits.
    let looked = sound_at_lem are fits c.loop-h.h (omega (arith, e)) c.begin_of-o.ensures c.args.state c.sound_head.ensures in
    head_unsound _ cs _ (omega (arith, e)) c.loop-h.h (omega (arith, e)) (sym looked ∙ c.if-not-sound_head.true)

pub loop-h-preserved : goal.loop-h-preserved
loop-h-preserved c = λ cs e are fits.
    let looked = sound_at_lem are fits c.loop-h.h (omega (arith, e)) c.begin_of-o.ensures c.args.state c.sound_head.ensures in
    pass_more _ c.loop-h.h (sym looked ∙ c.if-not-sound_head.false) (c.loop-h.invariant cs e are fits)

pub returns : goal.returns
returns c = λ cs e are fits. all_sound _ cs _ (omega (arith, e)) c.loop-h.h (omega (arith, e)) (c.loop-h.invariant cs e are fits)
