use lib.ListN.{length, get_or}
use Rattle.timer_set.specs.Members.{members}
use Rattle.file_format.specs.Parse.{digits}
use Rattle.writer.proofs.TimersLeft.{TimersLeft}
use Rattle.chart_lists.proofs.PutLoop.{PutLoop}
use Rattle.writer.proofs.records.put_starts.Given as goal

-- the timers before place at are written, the others are left
abbrev pub invariant-loop-j : goal.invariant-loop-j
invariant-loop-j l = TimersLeft l.fn.set.bits l.at l.j-iterator.left.bits
    × PutLoop (λ i. digits 1 (get_or (members l.fn.set.bits) i 0)) (length (members l.fn.set.bits)) l.initial.out l.out l.at l.at
