-- These lists are that chart's: the one relation between a chart and lists that hold it, exactly or at the fronts of longer ones.
use Rattle.std.specs.Prelude.{ℕ}
use Rattle.model.specs.Chart.{Chart}
use Rattle.model.specs.Valid.{Valid}
use Rattle.chart_lists.specs.Lists.{Lists, lists_of}
use Rattle.chart_lists.specs.Begins.{Begins}

-- a chart within its limits, at some width of its constants, and each list begins with the chart's own
pub record Holds (c : Chart) (l : Lists) : Type 0 where
  pub width : ℕ
  pub valid : Valid width c
  pub accepting : Begins (lists_of c).accepting l.accepting
  pub sources : Begins (lists_of c).sources l.sources
  pub targets : Begins (lists_of c).targets l.targets
  pub events : Begins (lists_of c).events l.events
  pub starts : Begins (lists_of c).starts l.starts
  pub test_counts : Begins (lists_of c).test_counts l.test_counts
  pub timers : Begins (lists_of c).timers l.timers
  pub codes : Begins (lists_of c).codes l.codes
  pub constants : Begins (lists_of c).constants l.constants
