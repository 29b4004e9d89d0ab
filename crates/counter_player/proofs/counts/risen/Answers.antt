-- `risen` changes one count a turn.
use Rattle.std.proofs.Common.{arith, rules}
use Rattle.steps.proofs.MovedCounts.{changed_none, changed_more}
use Rattle.counter_player.proofs.RisenCounts.{risen_all}
use Rattle.counter_player.proofs.counts.risen.Goals as goal

pub loop-count-init : goal.loop-count-init
loop-count-init c = changed_none _ _ (search rules)

pub loop-count-preserved : goal.loop-count-preserved
loop-count-preserved c = changed_more _ _ c.loop-count.count-index _ c.risen_count.ensures (omega arith) c.loop-count.invariant

pub returns : goal.returns
returns c = risen_all _ _ _ c.loop-count.count-index (omega arith) c.loop-count.invariant
