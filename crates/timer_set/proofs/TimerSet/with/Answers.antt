use Rattle.std.proofs.Common.{rules}
use Rattle.timer_set.proofs.Machine.{machine_added}
use Rattle.timer_set.proofs.TimerSet.with.Goals as goal

pub returns : goal.returns
returns c = machine_added 64 _ _ (search rules)
