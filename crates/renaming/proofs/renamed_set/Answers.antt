-- `renamed_set` takes the lowest timer that is left, one a turn.
use native.Mathlib.Omega.{arith}
use Rattle.renaming.proofs.Sets.{renamed_none, renamed_more}
use Rattle.renaming.proofs.renamed_set.Goals as goal

pub loop-j-init : goal.loop-j-init
loop-j-init c = renamed_none _ _ _

pub overflow_add-q : goal.overflow_add-q
overflow_add-q c = omega (arith, c.in-Some.ensures.steps.below)

pub offset_bounds-cells-q : goal.offset_bounds-cells-q
offset_bounds-cells-q c = omega (arith, c.in-Some.ensures.steps.below)

pub bounds-cells-q : goal.bounds-cells-q
bounds-cells-q c = omega (arith, c.in-Some.ensures.steps.below)

pub loop-j-preserved : goal.loop-j-preserved
loop-j-preserved c =
    let t = c.in-Some.ensures.steps in
    rw (t.left_is, c.with_number-renamed.ensures) (renamed_more _ _ _ _ _ _ t.below t.is_member c.loop-j.invariant)

pub returns : goal.returns
returns c =
    rw (c.into_iter-j-iterator.ensures.into_iter_gives, c.in-None.ensures.steps) at c.loop-j.invariant
