-- `board_timer` meets its contract.
use mathlib.Core.Path.{sym}
use Rattle.renaming.proofs.Timers.{timer_yes, timer_no}
use Rattle.renaming.proofs.board_timer.Goals as goal

pub returns-then-number-lt64 : goal.returns-then-number-lt64
returns-then-number-lt64 c = sym (timer_yes _ c.if-number-lt64.true)

pub returns-else-number-lt64 : goal.returns-else-number-lt64
returns-else-number-lt64 c = sym (timer_no _ c.if-number-lt64.false)
