use mathlib.Core.Path.{◌≡◌}
use Prim.Native.Nat.{◌≤◌}
use lib.ListN.{length}
use Rattle.model.specs.Chart.{Chart}
use Rattle.model.specs.Live.{tested_sets, reached_sets}
use Rattle.chart_lists.specs.Begins.{Begins}
use Rattle.chart_lists.specs.Holds.{Holds}
use Rattle.chart_lists.specs.Partly.{edges_of}
use Rattle.spare.proofs.Parts.{PartTo}
use Rattle.spare.proofs.keep_reached.Given as goal

abbrev pub invariant-loop-i : goal.invariant-loop-i
invariant-loop-i l = (l.part.count ≤ l.i)
    × ((c : Chart) → l.n ≡ length c.transitions
    → Holds c (edges_of c l.transitions.sources.now l.transitions.targets.now l.transitions.starts.now)
    → Begins (tested_sets c) l.transitions.tested.now → Begins (reached_sets c) l.reached → PartTo c l.initial.part l.part l.i)
