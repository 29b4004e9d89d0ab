-- The nine lists of a chart as the code hands them over, by what they hold.
use Rattle.chart_lists.specs.Lists.{Lists, lists}
use Rattle.chart_lists.specs.declared.ChartLists.{ChartLists}
use Rattle.chart_lists.specs.declared.ChartStore.{ChartStore}

-- of lent lists
abbrev pub lists_in : ChartLists → Lists
lists_in x =
    lists x.accepting.now x.sources.now x.targets.now x.events.now x.starts.now x.test_counts.now x.timers.now x.codes.now x.constants.now

-- of stored ones
abbrev pub stored : ChartStore → Lists
stored x = lists x.accepting x.sources x.targets x.events x.starts x.test_counts x.timers x.codes x.constants
