use Rattle.std.proofs.Common.{rules}
use Rattle.timer_set.proofs.Machine.{machine_minus}
use Rattle.timer_set.proofs.TimerSet.minus.Goals as goal

pub returns : goal.returns
returns c = machine_minus 64 _ _ (search rules) (search rules)
