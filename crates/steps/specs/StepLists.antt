-- The lists of a chart that a step goes by, and where each transition's tests begin among all tests.
use Rattle.std.specs.Prelude.{◌≡◌, List, ℕ, ◌≤◌, ◌<◌, length, get_or, take}
use Rattle.model.specs.Chart.{Chart}
use Rattle.chart_lists.specs.declared.ChartLists.{ChartLists}
use Rattle.chart_lists.specs.Lists.{Lists, lists, lists_of, all_tests}

-- these lists, with the chart's own for the two that no step looks at: the accepting locations and the events
abbrev pub step_lists : Chart → (sources targets starts test_counts timers codes constants : List ℕ) → Lists
step_lists c s t w g j x k = lists (lists_of c).accepting s t (lists_of c).events w g j x k

-- these lists of tests, with the chart's own for the rest
abbrev pub test_lists : Chart → (test_counts timers codes constants : List ℕ) → Lists
test_lists c g j x k = let own = lists_of c in step_lists c own.sources own.targets own.starts g j x k

-- the same of lists that are handed over together
abbrev pub steps_in : Chart → ChartLists → Lists
steps_in c x = step_lists c x.sources.now x.targets.now x.starts.now x.test_counts.now x.timers.now x.codes.now x.constants.now

abbrev pub tests_in : Chart → ChartLists → Lists
tests_in c x = test_lists c x.test_counts.now x.timers.now x.codes.now x.constants.now

-- this list of the numbers of tests, with the chart's own for the rest
abbrev pub count_lists : Chart → (test_counts : List ℕ) → Lists
count_lists c g = let own = lists_of c in test_lists c g own.timers own.codes own.constants

-- of each transition of the chart, the place in the lists of tests where its own begin
pub record FirstTests (c : Chart) (firsts : List ℕ) : Type 0 where
  pub room : length c.transitions ≤ length firsts
  pub place : (i : ℕ) → i < length c.transitions → get_or firsts i 0 ≡ length (all_tests (take i c.transitions))
