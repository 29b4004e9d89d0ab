use Rattle.steps.proofs.MovedCounts.{ChangedTo}
use Rattle.counter_player.proofs.RisenCounts.{risen_by}
use Rattle.counter_player.proofs.counts.risen.Given as goal

abbrev pub invariant-loop-count : goal.invariant-loop-count
invariant-loop-count l = ChangedTo (risen_by l.passed) l.count-index l.fn.counts l.count-items
