-- What numbering is handed of a chart: its header, and the lists of its transitions.
use Rattle.std.specs.Prelude.{◌≡◌}
use Rattle.model.specs.Chart.{Chart}
use Rattle.model.specs.Live.{tested_sets}
use Rattle.chart_lists.specs.declared.Header.{Header}
use Rattle.chart_lists.specs.Header.{header_of}
use Rattle.chart_lists.specs.Begins.{Begins}
use Rattle.chart_lists.specs.Holds.{Holds}
use Rattle.chart_lists.specs.Partly.{edges_of}
use Rattle.spare.specs.declared.Transitions.{Transitions}

-- the header is that of the chart, and the lists begin with the chart's own
pub record ChartHeld (c : Chart) (m : Header) (x : Transitions) : Type 0 where
  pub header_is : m ≡ header_of c
  pub edges : Holds c (edges_of c x.sources.now x.targets.now x.starts.now)
  pub tested_are : Begins (tested_sets c) x.tested.now
