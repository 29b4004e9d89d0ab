use mathlib.Core.Path.{◌≡◌}
use lib.ListN.{length}
use Rattle.model.specs.Chart.{Chart}
use Rattle.model.specs.Rewrite.{Numbering}
use Rattle.chart_lists.specs.Lists.{lists_of, put}
use Rattle.chart_lists.specs.Holds.{Holds}
use Rattle.chart_lists.specs.Partly.{edges_of}
use Rattle.renaming.specs.Renaming.{CellsOf}
use Rattle.renaming.proofs.Sets.{starts_to}
use Rattle.renaming.proofs.rename_starts.Given as goal

abbrev pub invariant-loop-i : goal.invariant-loop-i
invariant-loop-i l = (c : Chart) (N : Numbering) → l.fn.header.transitions ≡ length c.transitions
    → Holds c (edges_of c (lists_of c).sources l.targets l.starts) → CellsOf c N l.cells → l.renamed ≡ put (starts_to c N l.i) l.initial.renamed
