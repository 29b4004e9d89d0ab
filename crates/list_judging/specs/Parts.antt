-- The parts of a chart in lists that the code judges one after another, and what it keeps of each. That they make up `chart_from` is shown in
-- proofs/WholeChart, that the parts of a transition make it up in proofs/Parts.
use Rattle.std.specs.Prelude.{List, map, ℕ, leb, ltb, length}
use Rattle.lists.specs.Lists.{sum_of}
use Rattle.timer_set.specs.Members.{members, all_below}
use Rattle.comparison.specs.Comparison.{comparison_of}
use Rattle.model.specs.Answer.{Answer, returned, then, unless, nowhere}
use Rattle.model.specs.Chart.{Transition}
use Rattle.model.specs.Version.{known_version}
use Rattle.file_format.specs.File.{file_of}
use Rattle.chart_lists.specs.Lists.{Lists}
use Rattle.chart_lists.specs.declared.Header.{Header}
use Rattle.list_judging.specs.declared.transition.Sizes.{Sizes}
use Rattle.list_judging.specs.FromLists.{or_refused, entry_at, entry_below, accepting_from}
use Rattle.list_judging.specs.FromLists.{test_from, tests_from, transition_from, transitions_from, chart_from}

-- the version, the numbers of locations and timers and the initial location
unfoldable pub check_header : Header → Answer Unit
check_header m =
    unless (known_version m.version) 2 nowhere (
    unless (ltb m.locations 257) 4 nowhere (
    unless (leb 1 m.locations) 4 nowhere (
    unless (ltb m.initial m.locations) 5 nowhere (
    unless (ltb m.timers 65) 4 nowhere (
    returned tt)))))

-- the accepting locations: how many
unfoldable pub check_accepting : (locations : ℕ) → List ℕ → (n : ℕ) → Answer ℕ
check_accepting locations l n = then (accepting_from locations l 0 0 n) (λ xs. returned (length xs))

-- the code of a comparison
unfoldable pub check_code : List ℕ → (i k : ℕ) → Answer ℕ
check_code l i k = then (entry_at l k) (λ code. then (or_refused 8 i (comparison_of code)) (λ x. returned code))

-- a test: its constant
unfoldable pub check_test : Lists → (timers i k : ℕ) → Answer ℕ
check_test l timers i k = then (test_from l timers i k) (λ t. returned t.constant)

-- g tests: how many
unfoldable pub check_tests : Lists → (timers i k g : ℕ) → Answer ℕ
check_tests l timers i k g = then (tests_from l timers i k g) (λ ts. returned (length ts))

-- the number of tests of transition i, and these tests
unfoldable pub check_count : Lists → (test_counts : List ℕ) → (timers i k : ℕ) → Answer ℕ
check_count l test_counts timers i k = then (entry_at test_counts i) (λ g. unless (leb g 8) 4 i (check_tests l timers i k g))

-- the source, the target and the event of transition i
unfoldable pub check_ends : (sources targets events : List ℕ) → (locations i : ℕ) → Answer ℕ
check_ends sources targets events locations i =
    then (entry_below sources i locations 5 i) (λ source. then (entry_below targets i locations 5 i) (λ target. entry_at events i))

-- the timers that transition i starts: how many
unfoldable pub check_starts : List ℕ → (timers i : ℕ) → Answer ℕ
check_starts l timers i = then (entry_at l i) (λ w. unless (all_below timers w) 6 i (returned (length (members w))))

-- what gives the length of a record
unfoldable pub sizes_of : Transition → Sizes
sizes_of r = record { starts = length r.starts; tests = length r.tests }

-- transition i: its sizes
unfoldable pub check_transition : Lists → (locations timers i k : ℕ) → Answer Sizes
check_transition l locations timers i k = then (transition_from l locations timers i k) (λ r. returned (sizes_of r))

-- the sizes of transitions, summed up
unfoldable pub total_sizes : List Transition → Sizes
total_sizes rs = record {
  starts = sum_of (map (λ (r : Transition). length r.starts) rs);
  tests = sum_of (map (λ (r : Transition). length r.tests) rs);
}

-- n transitions: their sizes, summed up
unfoldable pub check_transitions : Lists → (locations timers n : ℕ) → Answer Sizes
check_transitions l locations timers n = then (transitions_from l locations timers 0 0 n) (λ rs. returned (total_sizes rs))

-- the whole chart: the length of its file
unfoldable pub check_chart : Header → Lists → Answer ℕ
check_chart m l = then (chart_from m l) (λ c. returned (length (file_of c)))
