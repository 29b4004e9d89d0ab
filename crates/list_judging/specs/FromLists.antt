-- The chart that nine lists describe beside its header, or its refusal: 2, then 3 to 8 in the order of the file's fields, then 17 (document 01,
-- "Turned down .."; document 02, P2).
use Rattle.std.specs.Prelude.{not, List, [], ◌∷◌, ℕ, zero, suc, ◌+◌, leb, ltb, length}
use mathlib.Core.Option.{Option, none, some}
use lib.ListN.{get_elem?}
use Rattle.timer_set.specs.Members.{members, all_below}
use Rattle.comparison.specs.Comparison.{comparison_of}
use Rattle.model.specs.Answer.{Answer, returned, refused, then, unless, nowhere}
use Rattle.model.specs.Chart.{Test, Transition, Chart}
use Rattle.model.specs.Version.{known_version, large_in_version1}
use Rattle.chart_lists.specs.Lists.{Lists}
use Rattle.chart_lists.specs.declared.Header.{Header}

-- what is there, else the refusal n at the place p
abbrev pub or_refused : {A : Type 0} → (n p : ℕ) → Option A → Answer A
or_refused n p none = refused n p
or_refused n p (some x) = returned x

-- the entry at place k of a list; 3 where the list has ended
unfoldable pub entry_at : {A : Type 0} → List A → (k : ℕ) → Answer A
entry_at l k = or_refused 3 nowhere (get_elem? l k)

-- a number below the limit, else the refusal n at the place p
unfoldable pub limited : (limit n p : ℕ) → Answer ℕ → Answer ℕ
limited limit n p x = then x (λ v. unless (ltb v limit) n p (returned v))

-- such an entry of a list
abbrev pub entry_below : List ℕ → (k limit n p : ℕ) → Answer ℕ
entry_below l k limit n p = limited limit n p (entry_at l k)

-- n accepting locations from place k on, at least lo and strictly rising
unfoldable pub accepting_from : (locations : ℕ) → List ℕ → (k lo n : ℕ) → Answer (List ℕ)
accepting_from locations l k lo zero = returned []
accepting_from locations l k lo (suc n) =
    then (entry_below l k locations 5 nowhere) (λ x.
    unless (leb lo x) 7 nowhere (
    then (accepting_from locations l (suc k) (suc x) n) (λ xs.
    returned (x ∷ xs))))

-- the test at place k, of transition i; 8 for a code of no comparison
unfoldable pub test_from : Lists → (timers i k : ℕ) → Answer Test
test_from l timers i k =
    then (entry_below l.timers k timers 6 i) (λ j.
    then (entry_at l.codes k) (λ code.
    then (or_refused 8 i (comparison_of code)) (λ x.
    then (entry_at l.constants k) (λ v.
    returned (record { timer = j; comparison = x; constant = v })))))

-- g tests from place k on
unfoldable pub tests_from : Lists → (timers i k g : ℕ) → Answer (List Test)
tests_from l timers i k zero = returned []
tests_from l timers i k (suc g) =
    then (test_from l timers i k) (λ t.
    then (tests_from l timers i (suc k) g) (λ ts.
    returned (t ∷ ts)))

-- transition i, its tests from place k on
unfoldable pub transition_from : Lists → (locations timers i k : ℕ) → Answer Transition
transition_from l locations timers i k =
    then (entry_below l.sources i locations 5 i) (λ source.
    then (entry_below l.targets i locations 5 i) (λ target.
    then (entry_at l.events i) (λ event.
    then (entry_at l.starts i) (λ w.
    unless (all_below timers w) 6 i (
    then (entry_at l.test_counts i) (λ g.
    unless (leb g 8) 4 i (
    then (tests_from l timers i k g) (λ tests.
    returned (record { source = source; target = target; event = event; starts = members w; tests = tests })))))))))

-- n transitions from number i on, their tests from place k on
unfoldable pub transitions_from : Lists → (locations timers i k n : ℕ) → Answer (List Transition)
transitions_from l locations timers i k zero = returned []
transitions_from l locations timers i k (suc n) =
    then (transition_from l locations timers i k) (λ r.
    then (transitions_from l locations timers (suc i) (k + length r.tests) n) (λ rs.
    returned (r ∷ rs)))

-- the chart of a header, when what its lists describe is found
abbrev pub chart_with : Header → (accepting : List ℕ) → (transitions : List Transition) → Chart
chart_with m accepting transitions = record {
  version = m.version;
  locations = m.locations;
  initial = m.initial;
  timers = m.timers;
  accepting = accepting;
  transitions = transitions;
}

-- 2, then 3 to 8 in the order of the fields: the chart, whatever its constants are
unfoldable pub fields_from : Header → Lists → Answer Chart
fields_from m l =
    unless (known_version m.version) 2 nowhere (
    unless (ltb m.locations 257) 4 nowhere (
    unless (leb 1 m.locations) 4 nowhere (
    unless (ltb m.initial m.locations) 5 nowhere (
    unless (ltb m.timers 65) 4 nowhere (
    then (accepting_from m.locations l.accepting 0 0 m.accepting) (λ accepting.
    unless (ltb m.transitions 513) 4 nowhere (
    then (transitions_from l m.locations m.timers 0 0 m.transitions) (λ transitions.
    returned (chart_with m accepting transitions)))))))))

-- 17 after all of these: the chart that a file of its version can hold
unfoldable pub chart_from : Header → Lists → Answer Chart
chart_from m l = then (fields_from m l) (λ c. unless (not (large_in_version1 c)) 17 nowhere (returned c))
