-- `grown` adds the ticks that passed to one count a turn.
use mathlib.Core.Path.{refl}
use native.Mathlib.Omega.{arith}
use Rattle.steps.proofs.MovedCounts.{changed_none, changed_more, grown_all}
use Rattle.steps.proofs.counts.grown.Goals as goal

pub loop-count-init : goal.loop-count-init
loop-count-init c = (c.requires, changed_none _ _ c.requires.number)

pub overflow_add-count : goal.overflow_add-count
overflow_add-count c =
    let i = c.loop-count.count-index in
    record { fits = rw (c.loop-count.invariant.1.kept i (omega arith)) (c.loop-count.invariant.0.fits i (omega arith)) }

pub loop-count-preserved : goal.loop-count-preserved
loop-count-preserved c = (c.loop-count.invariant.0, changed_more _ _ c.loop-count.count-index _ refl (omega arith) c.loop-count.invariant.1)

pub returns : goal.returns
returns c = grown_all _ _ c.loop-count.count-index _ (omega arith) c.loop-count.invariant.1
