use mathlib.Core.Path.{◌≡◌}
use Prim.Native.Nat.{◌≤◌}
use lib.ListN.{length}
use Rattle.model.specs.Chart.{Chart}
use Rattle.chart_lists.specs.Holds.{Holds}
use Rattle.steps.specs.StepLists.{count_lists}
use Rattle.steps.proofs.FirstPlaces.{FoundTo}
use Rattle.steps.proofs.tests.find_firsts.Given as goal

abbrev pub invariant-loop-i : goal.invariant-loop-i
invariant-loop-i l = ((c : Chart) × (l.n ≡ length c.transitions) × Holds c (count_lists c l.test_counts))
    × (length l.firsts ≡ length l.initial.firsts) × (l.n ≤ length l.initial.firsts)
    × ((c : Chart) → l.n ≡ length c.transitions → Holds c (count_lists c l.test_counts) → FoundTo c l.i l.sum l.firsts)
