use Rattle.smallest_plan.specs.RowPlans.{Bounds}
use Rattle.smallest_plan.proofs.smallest.Given as goal

abbrev pub invariant-loop-k : goal.invariant-loop-k
invariant-loop-k l = Bounds l.rows l.n l.k l.high
