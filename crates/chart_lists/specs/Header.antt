-- The header of a chart, as the code hands it over beside the lists.
use Rattle.std.specs.Prelude.{ℕ, length}
use Rattle.model.specs.Chart.{Chart}
use Rattle.chart_lists.specs.declared.Header.{Header}

unfoldable pub header_of : Chart → Header
header_of c = record {
  version = c.version;
  locations = c.locations;
  initial = c.initial;
  timers = c.timers;
  accepting = length c.accepting;
  transitions = length c.transitions;
}

-- the same header in that version
unfoldable pub header_in_version : (version : ℕ) → Header → Header
header_in_version version m = record {
  version = version;
  locations = m.locations;
  initial = m.initial;
  timers = m.timers;
  accepting = m.accepting;
  transitions = m.transitions;
}
