use Rattle.model.specs.Version.{width_of}
use Rattle.file_judging.proofs.TestsLoop.{Skipping}
use Rattle.file_judging.proofs.records.skip_tests.Given as goal

abbrev pub invariant-loop-k : goal.invariant-loop-k
invariant-loop-k l = Skipping (width_of l.chart.version) l.chart.timers l.place l.s l.at l.g l.here l._k
