use mathlib.Core.Path.{◌≡◌}
use Prim.Native.Nat.{◌+◌, ◌-◌, ◌≤◌, ◌<◌}
use lib.ListN.{length, get_or, drop}
use Rattle.model.specs.Chart.{Transition, Chart, Nth}
use Rattle.model.specs.Run.{Counts, all_met, enabled}
use Rattle.chart_lists.specs.Holds.{Holds}
use Rattle.steps.specs.StepLists.{FirstTests, tests_in}
use Rattle.steps.specs.Counts.{CountsAgree}
use Rattle.steps.proofs.tests.enabled.Given as goal

abbrev pub invariant-loop-k : goal.invariant-loop-k
invariant-loop-k l = ((c : Chart) × (l.i < length c.transitions) × FirstTests c l.firsts
    × Holds c (tests_in c l.lists))
    × (length l.counts ≡ 64) × (l.first ≡ get_or l.firsts l.i 0) × (l.end ≡ l.first + get_or l.lists.test_counts.now l.i 0) × (l.first ≤ l.k)
    × ((c : Chart) → FirstTests c l.firsts → Holds c (tests_in c l.lists) → (tr : Transition) → Nth c l.i tr
    → (v : Counts) → CountsAgree l.counts v → enabled c tr v ≡ all_met (drop (l.k - get_or l.firsts l.i 0) tr.tests) v)
