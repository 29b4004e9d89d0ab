-- `start_heads` sets one head after another.
use mathlib.Core.Path.{◌≡◌}
use native.Mathlib.Omega.{arith}
use lib.ListN.{length}
use Rattle.controller.proofs.StartHeads.{none_stand, next_stands, all_stand}
use Rattle.controller.proofs.start.start_heads.Goals as goal

pub loop-h-init : goal.loop-h-init
loop-h-init c = none_stand _

pub loop-h-preserved : goal.loop-h-preserved
loop-h-preserved c = next_stands _ c.loop-h.h c.loop-h.heads (omega arith) c.start_head.ensures c.loop-h.invariant

pub returns : goal.returns
returns c = λ cs e are.
    let q : c.loop-h.h ≡ length cs = omega arith in
    all_stand _ cs c.loop-h.heads are (rw q at c.loop-h.invariant)
