use Rattle.std.proofs.Common.{◌≡◌, length}
use Rattle.model.specs.Chart.{Chart}
use Rattle.chart_lists.specs.Holds.{Holds}
use Rattle.steps.specs.StepLists.{FirstTests, steps_in}
use Rattle.steps.proofs.StepLists.{Reached}
use Rattle.counter_model.specs.CounterRun.{CounterState}
use Rattle.counter_player.specs.Stepping.{Shows}
use Rattle.counter_player.proofs.StepLists.{counter_sequence}
use Rattle.counter_player.proofs.stepping.take_steps.Given as goal

abbrev pub invariant-loop-k : goal.invariant-loop-k
invariant-loop-k l = ((c : Chart) × (l.n ≡ length c.transitions) × FirstTests c l.firsts
    × Holds c (steps_in c l.lists))
    × (length l.readings ≡ length l.transitions)
    × ((c : Chart) → l.n ≡ length c.transitions → FirstTests c l.firsts
    → Holds c (steps_in c l.lists)
    → (s : CounterState) → Shows l.initial.state s → Reached Shows (counter_sequence c l.transitions l.readings) l.k s l.moved)
