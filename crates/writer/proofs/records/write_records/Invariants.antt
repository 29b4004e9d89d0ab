use Rattle.model.specs.Version.{width_of}
use Rattle.chart_lists.specs.Stored.{lists_in}
use Rattle.writer.proofs.RecordBytes.{Writing}
use Rattle.writer.proofs.records.write_records.Given as goal

abbrev pub invariant-loop-i : goal.invariant-loop-i
invariant-loop-i l = Writing (width_of l.header.version) (lists_in l.lists) l.header.locations l.header.timers l.header.transitions l.initial.out
    l.out l.at l.k l.i
