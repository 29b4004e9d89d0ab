-- `started` starts the lowest timer that is left, one a turn.
use mathlib.Core.Path.{ap}
use native.Mathlib.Omega.{arith}
use Rattle.timer_set.specs.declared.TimerSet.{TimerSet}
use Rattle.steps.proofs.MovedCounts.{started_none, started_more, started_all}
use Rattle.steps.proofs.counts.started.Goals as goal

pub loop-j-init : goal.loop-j-init
loop-j-init c = rw (ap (λ (s : TimerSet). s.bits) c.into_iter-j-iterator.ensures.into_iter_gives) (started_none _ _ (omega arith))

pub loop-j-preserved : goal.loop-j-preserved
loop-j-preserved c =
    let t = c.in-Some.ensures.steps in
    rw (t.left_is, c.from.ensures) (started_more _ _ _ _ _ t.below t.is_member c.loop-j.invariant)

pub returns : goal.returns
returns c = started_all _ _ _ _ c.in-None.ensures.steps c.loop-j.invariant
