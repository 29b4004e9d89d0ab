-- Charts with the same transitions, in whatever order and however often (document 02, P3: the number of rounds depends on no order).
use Rattle.std.specs.Prelude.{reverse}
use Rattle.lists.specs.Elements.{Element}
use Rattle.model.specs.Chart.{Transition, Chart}

-- each transition of one is a transition of the other
pub record SameTransitions (c d : Chart) : Type 0 where
  pub there : (r : Transition) → Element c.transitions r → Element d.transitions r
  pub back : (r : Transition) → Element d.transitions r → Element c.transitions r

-- the chart with its transitions written last to first
unfoldable pub last_to_first : Chart → Chart
last_to_first c = record {
  version = c.version;
  locations = c.locations;
  initial = c.initial;
  timers = c.timers;
  accepting = c.accepting;
  transitions = reverse c.transitions;
}
