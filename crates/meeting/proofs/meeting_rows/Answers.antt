-- `meeting_rows` meets its contract: the rows below i are written.
use native.Mathlib.Omega.{arith}
use Rattle.meeting.proofs.Meeting.{rows_of}
use Rattle.meeting.proofs.meeting_rows.Goals as goal

pub returns : goal.returns
returns c = λ fs low high a. rows_of a c.loop-i.rows (λ i h. c.loop-i.invariant.2 i (omega arith))
