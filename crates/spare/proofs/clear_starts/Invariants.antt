use mathlib.Core.Path.{◌≡◌}
use lib.ListN.{length}
use Rattle.model.specs.Chart.{Chart}
use Rattle.model.specs.Live.{reached_sets}
use Rattle.chart_lists.specs.Lists.{lists_of}
use Rattle.chart_lists.specs.Begins.{Begins}
use Rattle.chart_lists.specs.Holds.{Holds}
use Rattle.spare.specs.Cleared.{transitions_of}
use Rattle.spare.proofs.Clearing.{StartsTo}
use Rattle.spare.proofs.clear_starts.Given as goal

abbrev pub invariant-loop-i : goal.invariant-loop-i
invariant-loop-i l = (c : Chart) → l.n ≡ length c.transitions → Begins (reached_sets c) l.reached
    → Holds c (transitions_of c l.sources (lists_of c).targets l.initial.starts l.initial.test_counts (lists_of c).timers (lists_of c).codes
    (lists_of c).constants)
    → StartsTo c l.initial.starts l.initial.test_counts l.starts l.test_counts l.i
