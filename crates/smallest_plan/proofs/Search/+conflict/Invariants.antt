-- `conflict` tries the numbers in turn at the family picked, and calls itself for the others; its measure is the word of the unplaced families.
use Rattle.smallest_plan.proofs.Placing.{Tried}
use Rattle.smallest_plan.proofs.Search.+conflict.Given as goal

abbrev pub decreases-conflict : goal.decreases-conflict
decreases-conflict l = l.self.now.unplaced.bits

abbrev pub invariant-loop-c : goal.invariant-loop-c
invariant-loop-c l = Tried l.self.rows.now l.self.held l.self.numbers l.self.unplaced.bits l.v l.found.bits l.c
