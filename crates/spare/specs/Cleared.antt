-- The lists of the chart in which a transition that leaves a spare location has no tests and no starts.
use Rattle.std.specs.Prelude.{List, ◌++◌, ℕ, take, drop}
use Rattle.model.specs.Chart.{Chart}
use Rattle.model.specs.Spare.{spare_cleared}
use Rattle.chart_lists.specs.Lists.{Lists, lists, lists_of, put}
use Rattle.chart_lists.specs.Begins.{Begins}

-- all lists of the transitions but their events, which stay; the accepting locations stay too
abbrev pub transitions_of : Chart → (sources targets starts testCounts timers codes constants : List ℕ) → Lists
transitions_of c s t w g j x k = lists (lists_of c).accepting s t (lists_of c).events w g j x k

-- n entries from the place `from` on, moved to the place `to` on
unfoldable pub moved : (from to n : ℕ) → List ℕ → List ℕ
moved from to n l = put (take to l ++ take n (drop from l)) l

-- what transitions start, and the numbers of their tests
pub record StartsCleared (c : Chart) (starts testCounts : List ℕ) : Type 0 where
  pub starts_are : Begins (lists_of (spare_cleared c)).starts starts
  pub counts_are : Begins (lists_of (spare_cleared c)).test_counts testCounts

-- of each test its timer, its comparison's code and its constant
pub record TestsCleared (c : Chart) (timers codes constants : List ℕ) : Type 0 where
  pub timers_are : Begins (lists_of (spare_cleared c)).timers timers
  pub codes_are : Begins (lists_of (spare_cleared c)).codes codes
  pub constants_are : Begins (lists_of (spare_cleared c)).constants constants
