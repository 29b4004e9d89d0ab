use mathlib.Core.Path.{◌≡◌}
use lib.ListN.{length}
use Rattle.model.specs.Chart.{Chart}
use Rattle.model.specs.Run.{State as Run-as-State}
use Rattle.chart_lists.specs.Holds.{Holds}
use Rattle.steps.specs.StepLists.{FirstTests, steps_in}
use Rattle.steps.specs.Stepping.{Shows, Small}
use Rattle.steps.proofs.StepLists.{Reached, player_sequence}
use Rattle.steps.proofs.take_steps.Given as goal

abbrev pub invariant-loop-k : goal.invariant-loop-k
invariant-loop-k l = ((c : Chart) × (l.n ≡ length c.transitions) × FirstTests c l.firsts
    × Holds c (steps_in c l.lists))
    × Small l.state × (length l.times ≡ length l.transitions)
    × ((c : Chart) → l.n ≡ length c.transitions → FirstTests c l.firsts
    → Holds c (steps_in c l.lists)
    → (s : Run-as-State) → Shows l.initial.state s → Reached Shows (player_sequence c l.transitions l.times) l.k s l.state)
