-- `first_testing` returns the lowest transition that tests a timer of its source's set: none before it does.
use mathlib.Core.Path.{sym, ap, ◌∙◌}
use mathlib.Core.Bool.{not}
use native.Mathlib.Omega.{arith}
use borrow.Author.Count.{below_more, below_none}
use Rattle.lists.proofs.Lowest.{lowest_is}
use Rattle.judgement.proofs.Tested.{test_says}
use Rattle.judgement.proofs.first_testing.Goals as goal

pub loop-i-init : goal.loop-i-init
loop-i-init c = below_none _

pub overflow_cast-q : goal.overflow_cast-q
overflow_cast-q c = omega (arith, c.requires.1 c.loop-i.i (omega arith))

pub offset_bounds-sets-q : goal.offset_bounds-sets-q
offset_bounds-sets-q c = omega (arith, c.requires.1 c.loop-i.i (omega arith))

pub bounds-sets-q : goal.bounds-sets-q
bounds-sets-q c = omega (arith, c.requires.1 c.loop-i.i (omega arith))

pub returns-then-not-is_empty : goal.returns-then-not-is_empty
returns-then-not-is_empty c = let says = test_says _ _ c.common-both.ensures c.is_empty.ensures in
    sym (lowest_is _ _ c.loop-i.i (omega arith) (λ h. says ∙ ap not c.if-not-is_empty.true) c.loop-i.invariant)

pub loop-i-preserved : goal.loop-i-preserved
loop-i-preserved c = let says = test_says _ _ c.common-both.ensures c.is_empty.ensures in
    below_more _ c.loop-i.i c.loop-i.invariant (says ∙ ap not c.if-not-is_empty.false)

pub returns : goal.returns
returns c = sym (lowest_is _ _ _ (omega arith) (λ h. absurd (omega arith)) (λ k h. c.loop-i.invariant k (omega arith)))
