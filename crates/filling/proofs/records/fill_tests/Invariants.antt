use mathlib.Core.Path.{◌≡◌}
use lib.ListN.{length}
use Rattle.model.specs.Version.{width_of}
use Rattle.filling.proofs.TestsLoop.{TestsFilled}
use Rattle.filling.proofs.records.fill_tests.Given as goal

abbrev pub invariant-loop-k : goal.invariant-loop-k
invariant-loop-k l =
    (length l.timers ≡ length l.initial.timers) × (length l.codes ≡ length l.initial.codes) × (length l.constants ≡ length l.initial.constants)
    × TestsFilled (width_of l.chart.version) l.chart.timers l.place l.s l.at l.g l.base l.here l.k l.initial.timers l.initial.codes
    l.initial.constants l.timers l.codes l.constants
