use mathlib.Core.Path.{◌≡◌}
use Prim.Native.Nat.{ℕ, ◌-◌}
use lib.ListN.{length}
use Rattle.model.specs.Chart.{Chart}
use Rattle.model.specs.Run.{State, grown}
use Rattle.chart_lists.specs.Holds.{Holds}
use Rattle.steps.specs.StepLists.{FirstTests}
use Rattle.steps.specs.Counts.{CountsAgree}
use Rattle.serving.specs.Served.{lists_chosen}
use Rattle.serving.proofs.Choosing.{NoneBelow}
use Rattle.serving.proofs.lowest_to_take.Given as goal

abbrev pub invariant-loop-i : goal.invariant-loop-i
invariant-loop-i l = (c : Chart) → l.n ≡ length c.transitions → FirstTests c l.firsts
    → Holds c (lists_chosen c l.lists)
    → (x : State) (t : ℕ) → l.location ≡ x.location → CountsAgree l.counts (grown (t - x.time) x.counts) → NoneBelow c x l.event t l.i
