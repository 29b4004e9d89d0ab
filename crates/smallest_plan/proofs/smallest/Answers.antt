-- `smallest` tries k from the size of the largest clique on: no plan has fewer than k timers, and one has `high`.
use mathlib.Core.Path.{sym, ◌∙◌}
use native.Mathlib.Omega.{arith}
use borrow.Author.Tests.{eqb-true, eqb-false}
use Rattle.smallest_plan.proofs.Placing.{completes_part}
use Rattle.smallest_plan.proofs.Whole.{ready_start, all_candidates, raised, enough, too_few, met}
use Rattle.smallest_plan.proofs.smallest.Goals as goal

pub largest_clique-k-requires : goal.largest_clique-k-requires
largest_clique-k-requires c = (
  omega (arith, c.requires.1, c.requires.3.least _ _ c.requires.3.plan),
  rw c.families_below-all.ensures (all_candidates c.requires.0 c.requires.2),
)

pub loop-k-init : goal.loop-k-init
loop-k-init c = raised c.requires.3 (rw c.families_below-all.ensures at c.largest_clique-k.ensures)

pub conflict-requires : goal.conflict-requires
conflict-requires c = rw c.families_below-all.ensures (ready_start c.requires.0 (omega arith) c.requires.2)

pub returns-then-is_empty : goal.returns-then-is_empty
returns-then-is_empty c = let e = eqb-true _ _ (sym c.is_empty.ensures ∙ c.if-is_empty.true) in
    enough c.loop-k.invariant (rw c.families_below-all.ensures at (c.conflict.ensures.none e))

pub loop-k-preserved : goal.loop-k-preserved
loop-k-preserved c = let A = rw c.families_below-all.ensures at c.conflict.ensures in
    let n = eqb-false _ _ (sym c.is_empty.ensures ∙ c.if-is_empty.false) in
    too_few c.loop-k.invariant (λ f C. A.some n f (completes_part A.within C))

pub returns : goal.returns
returns c = met c.loop-k.invariant (omega arith)
