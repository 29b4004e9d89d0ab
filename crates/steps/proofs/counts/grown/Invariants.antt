use Prim.Native.Nat.{◌+◌}
use Rattle.steps.specs.Counts.{Room}
use Rattle.steps.proofs.MovedCounts.{ChangedTo}
use Rattle.steps.proofs.counts.grown.Given as goal

abbrev pub invariant-loop-count : goal.invariant-loop-count
invariant-loop-count l = Room l.fn.counts l.passed × ChangedTo (λ x. x + l.passed) l.count-index l.fn.counts l.count-items
