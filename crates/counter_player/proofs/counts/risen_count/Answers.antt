use Rattle.std.proofs.Common.{rules}
use Rattle.counter_player.proofs.counts.risen_count.Goals as goal

pub returns-then-count-ticks : goal.returns-then-count-ticks
returns-then-count-ticks c = search rules
