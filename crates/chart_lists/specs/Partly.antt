-- The lists of a call that is lent only some of them: the others are the chart's own.
use Rattle.std.specs.Prelude.{List, ℕ}
use Rattle.model.specs.Chart.{Chart}
use Rattle.chart_lists.specs.Lists.{Lists, lists, lists_of}

-- of each transition its source, its target and what it starts
abbrev pub edges_of : Chart → (sources targets starts : List ℕ) → Lists
edges_of c s t w = let l = lists_of c in lists l.accepting s t l.events w l.test_counts l.timers l.codes l.constants

-- of each transition its source and the number of its tests, and of each test its timer
abbrev pub tests_of : Chart → (sources testCounts timers : List ℕ) → Lists
tests_of c s g j = let l = lists_of c in lists l.accepting s l.targets l.events l.starts g j l.codes l.constants
