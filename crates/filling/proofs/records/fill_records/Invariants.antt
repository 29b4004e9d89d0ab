use mathlib.Core.Path.{◌≡◌}
use lib.ListN.{length, drop}
use Rattle.model.specs.Version.{width_of}
use Rattle.filling.proofs.RecordsLoop.{RecordsFilled}
use Rattle.filling.proofs.records.fill_records.Given as goal

abbrev pub invariant-loop-k : goal.invariant-loop-k
invariant-loop-k l =
    (length l.sources ≡ length l.initial.sources) × (length l.targets ≡ length l.initial.targets) × (length l.events ≡ length l.initial.events) ×
    (length l.starts ≡ length l.initial.starts) × (length l.test_counts ≡ length l.initial.test_counts)
    × (length l.timers ≡ length l.initial.timers) × (length l.codes ≡ length l.initial.codes) × (length l.constants ≡ length l.initial.constants)
    × RecordsFilled (width_of l.chart.version) l.chart.locations l.chart.timers l.chart.transitions l.k l.base (drop l.at l.s) (drop l.here l.s)
    l.initial.sources l.initial.targets l.initial.events l.initial.starts l.initial.test_counts
    l.initial.timers l.initial.codes l.initial.constants l.sources l.targets l.events l.starts l.test_counts l.timers l.codes l.constants
