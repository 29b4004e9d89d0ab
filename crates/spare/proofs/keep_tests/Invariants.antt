use mathlib.Core.Path.{◌≡◌}
use lib.ListN.{length}
use Rattle.model.specs.Chart.{Chart}
use Rattle.model.specs.Live.{reached_sets}
use Rattle.chart_lists.specs.Lists.{lists_of}
use Rattle.chart_lists.specs.Begins.{Begins}
use Rattle.chart_lists.specs.Holds.{Holds}
use Rattle.spare.specs.Cleared.{transitions_of}
use Rattle.spare.proofs.Clearing.{TestsTo}
use Rattle.spare.proofs.keep_tests.Given as goal

abbrev pub invariant-loop-i : goal.invariant-loop-i
invariant-loop-i l = (c : Chart) → l.n ≡ length c.transitions → Begins (reached_sets c) l.reached
    → Holds c (transitions_of c l.sources (lists_of c).targets (lists_of c).starts l.test_counts l.initial.timers l.initial.codes l.initial.constants)
    → TestsTo c l.initial.timers l.initial.codes l.initial.constants l.timers l.codes l.constants l.from l.to l.i
