use mathlib.Core.Path.{◌≡◌}
use lib.ListN.{take}
use Rattle.timer_set.specs.Members.{set_of}
use Rattle.judgement.proofs.set_of.Given as goal

abbrev pub invariant-loop-timer : goal.invariant-loop-timer
invariant-loop-timer l = l.set.bits ≡ set_of (take l.timer-index l.timers)
