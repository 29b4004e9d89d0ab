use Rattle.std.proofs.Common.{rules}
use Rattle.timer_set.proofs.Machine.{machine_removed}
use Rattle.timer_set.proofs.TimerSet.without.Goals as goal

pub returns : goal.returns
returns c = machine_removed 64 _ _ (search rules) (search rules)
