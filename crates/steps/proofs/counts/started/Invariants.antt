use Rattle.steps.proofs.MovedCounts.{StartedTo}
use Rattle.steps.proofs.counts.started.Given as goal

abbrev pub invariant-loop-j : goal.invariant-loop-j
invariant-loop-j l = StartedTo l.j-iterator.left.bits l.starts l.initial.next l.next
