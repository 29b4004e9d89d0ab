use mathlib.Core.Path.{◌≡◌}
use Prim.Native.Nat.{◌-◌}
use lib.ListN.{length}
use Rattle.chart_lists.specs.Limits.{most_locations}
use Rattle.flow.specs.Edges.{flow_of}
use Rattle.flow.proofs.Turns.{Turn}
use Rattle.flow.proofs.make_rounds.Given as goal

abbrev pub invariant-loop-depth : goal.invariant-loop-depth
invariant-loop-depth l = (length l.idle ≡ most_locations) × (length l.waiting ≡ most_locations) × (length l.changed ≡ most_locations)
    × Turn (flow_of l.into l.from l.cut l.gain l.own) l.count l.sets l.after l.idle l.waiting l.depth

abbrev pub decreases-loop-depth : goal.decreases-loop-depth
decreases-loop-depth l = length l.own - l.count
