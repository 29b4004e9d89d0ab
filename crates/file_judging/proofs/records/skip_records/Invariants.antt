use lib.ListN.{drop}
use Rattle.model.specs.Version.{width_of}
use Rattle.file_judging.proofs.Loops.{TestsCounted}
use Rattle.file_judging.proofs.records.skip_records.Given as goal

abbrev pub invariant-loop-i : goal.invariant-loop-i
invariant-loop-i l =
    TestsCounted (width_of l.chart.version) l.chart.locations l.chart.timers l.chart.transitions l.i l.tests (drop l.at l.s) (drop l.here l.s)
