use mathlib.Core.Path.{◌≡◌}
use lib.ListN.{length}
use Rattle.model.specs.Chart.{Chart}
use Rattle.model.specs.Rewrite.{Numbering}
use Rattle.chart_lists.specs.Holds.{Holds}
use Rattle.chart_lists.specs.Partly.{tests_of}
use Rattle.renaming.specs.Renaming.{CellsOf}
use Rattle.renaming.proofs.Timers.{TestsRenamed}
use Rattle.renaming.proofs.rename_tests.Given as goal

abbrev pub invariant-loop-i : goal.invariant-loop-i
invariant-loop-i l = (c : Chart) (N : Numbering) → l.fn.header.transitions ≡ length c.transitions
    → Holds c (tests_of c l.sources l.test_counts l.timers) → CellsOf c N l.cells → TestsRenamed c N l.initial.renamed l.renamed l.base l.i
