-- `sound_waiting` looks at the event that waits.
use Rattle.controller.proofs.SoundHeads.{nothing_waits, waits_too_late, waits_allowed}
use Rattle.controller.proofs.state.sound_waiting.Goals as goal

pub returns-then-head-eq0 : goal.returns-then-head-eq0
returns-then-head-eq0 c = nothing_waits _ c.if-head-eq0.true

pub returns-else-head-le-LARGEST_TIME : goal.returns-else-head-le-LARGEST_TIME
returns-else-head-le-LARGEST_TIME c = waits_too_late _ c.if-head-eq0.false c.if-head-le-LARGEST_TIME.false

pub returns-then-head-le-LARGEST_TIME : goal.returns-then-head-le-LARGEST_TIME
returns-then-head-le-LARGEST_TIME c = waits_allowed _ c.if-head-eq0.false c.if-head-le-LARGEST_TIME.true
