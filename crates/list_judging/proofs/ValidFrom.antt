-- Lists that hold a chart describe it, if a file of its version can hold it: the other direction of proofs/FromHolds.
use mathlib.Core.Path.{◌≡◌, refl, sym}
use mathlib.Core.Bool.{true}
use mathlib.Core.List.{List, [], ◌∷◌, ◌++◌, map, map-append}
use Prim.Native.Nat.{ℕ, suc, ◌+◌, ◌≤◌}
use native.Mathlib.Omega.{arith}
use lib.ListN.{length, drop, length-map}
use Rattle.lists.specs.Rising.{Rising, All}
use Rattle.timer_set.specs.Members.{set_of}
use Rattle.timer_set.proofs.Members.{members_set_of}
use Rattle.comparison.specs.Comparison.{code_of}
use Rattle.model.specs.Answer.{returned}
use Rattle.model.specs.Chart.{Test, Transition, Chart}
use Rattle.model.specs.Valid.{ValidTest, ValidTransition, Valid, Storable}
use Rattle.model.specs.Version.{known_version, widest}
use Rattle.model.proofs.Versions.{storable_iff}
use Rattle.model.specs.Live.{starts_set}
use Rattle.chart_lists.specs.Lists.{Lists, lists_of, all_tests, events_of, sources_of, starts_of, targets_of, test_counts_of, timers_of}
use Rattle.chart_lists.specs.Begins.{Begins}
use Rattle.chart_lists.specs.Holds.{Holds}
use Rattle.chart_lists.specs.Header.{header_of}
use Rattle.list_judging.specs.FromLists.{fields_from, chart_from}
use Rattle.list_judging.proofs.Parts.{AcceptingEach, each_accepting, TestsEach, each_tests, TransitionsEach, each_transitions}
use Rattle.list_judging.proofs.TransitionOf.{of_accepting, of_test, of_transition}
use Rattle.list_judging.proofs.ChartOf.{of_chart, fields_from_lem}
use Rattle.list_judging.proofs.Beginnings.{begins_split, begins_front, begins_back}
use Rattle.list_judging.proofs.Starts.{set_below}

rising_each : (locations : ℕ) (w : List ℕ) (k lo : ℕ) (xs : List ℕ) → Rising locations lo xs → Begins xs (drop k w)
    → AcceptingEach locations w k lo xs
rising_each locations w k lo [] r b = tt
rising_each locations w k lo (x ∷ xs) r b =
    let h = begins_split w k b in
    (of_accepting locations w k lo x h.0 r.0.1 r.0.0, rising_each locations w (suc k) (suc x) xs r.1 h.1)

-- the tests of the first transition, and those of the others
tests_split : (f : Test → ℕ) (w : List ℕ) (k : ℕ) (r : Transition) (rs : List Transition) → Begins (map f (all_tests (r ∷ rs))) (drop k w)
    → Begins (map f r.tests) (drop k w) × Begins (map f (all_tests rs)) (drop (k + length r.tests) w)
unfolding all_tests
tests_split f w k r rs b =
    let h : Begins (map f r.tests ++ map f (all_tests rs)) (drop k w) = rw (← map-append f r.tests (all_tests rs)) b in (
      begins_front (map f r.tests) (map f (all_tests rs)) h,
      rw (length-map r.tests f) at (begins_back (map f r.tests) (map f (all_tests rs)) w k h),
    )

module _ (l : Lists) (locations timers : ℕ) (few : timers ≤ 64) where
  tests_held : (i k : ℕ) (ts : List Test) → All (ValidTest widest timers) ts
      → Begins (timers_of ts) (drop k l.timers) → Begins (map (λ t. code_of t.comparison) ts) (drop k l.codes)
      → Begins (map (λ t. t.constant) ts) (drop k l.constants) → TestsEach l timers i k ts
  tests_held i k [] v a b d = tt
  tests_held i k (t ∷ ts) v a b d =
      let x = begins_split l.timers k a in
      let y = begins_split l.codes k b in
      let z = begins_split l.constants k d in (
        of_test l timers i k t (record { timer = x.0; timer_below = v.0.timer; code = y.0; constant = z.0 }),
        tests_held i (suc k) ts v.1 x.1 y.1 z.1,
      )

  -- the lists from transition i and from the test at place k on
  record From (i k : ℕ) (rs : List Transition) : Type 0 where
    sources : Begins (sources_of rs) (drop i l.sources)
    targets : Begins (targets_of rs) (drop i l.targets)
    events : Begins (events_of rs) (drop i l.events)
    starts : Begins (starts_of rs) (drop i l.starts)
    test_counts : Begins (test_counts_of rs) (drop i l.test_counts)
    test_timers : Begins (timers_of (all_tests rs)) (drop k l.timers)
    codes : Begins (map (λ t. code_of t.comparison) (all_tests rs)) (drop k l.codes)
    constants : Begins (map (λ t. t.constant) (all_tests rs)) (drop k l.constants)

  transitions_held : (i k : ℕ) (rs : List Transition) → All (ValidTransition widest locations timers) rs → From i k rs
      → TransitionsEach l locations timers i k rs
  unfolding starts_set
  transitions_held i k [] v b = tt
  transitions_held i k (r ∷ rs) v b =
      let p = begins_split l.sources i b.sources in
      let q = begins_split l.targets i b.targets in
      let e = begins_split l.events i b.events in
      let w = begins_split l.starts i b.starts in
      let g = begins_split l.test_counts i b.test_counts in
      let x = tests_split (λ t. t.timer) l.timers k r rs b.test_timers in
      let y = tests_split (λ t. code_of t.comparison) l.codes k r rs b.codes in
      let z = tests_split (λ t. t.constant) l.constants k r rs b.constants in (
        of_transition l locations timers i k r (record {
          source = p.0;
          source_below = v.0.source;
          target = q.0;
          target_below = v.0.target;
          event = e.0;
          word = set_of r.starts;
          starts = w.0;
          starts_are = sym (members_set_of timers r.starts v.0.starts few);
          starts_below = set_below timers r.starts few v.0.starts;
          count = g.0;
          few_tests = v.0.few_tests;
          tests = each_tests l timers i k r.tests (tests_held i k r.tests v.0.tests x.0 y.0 z.0);
        }),
        transitions_held (suc i) (k + length r.tests) rs v.1 (record {
          sources = p.1;
          targets = q.1;
          events = e.1;
          starts = w.1;
          test_counts = g.1;
          test_timers = x.1;
          codes = y.1;
          constants = z.1;
        }),
      )

fields_held : (c : Chart) → known_version c.version ≡ true → Valid widest c → (l : Lists) → Holds c l → fields_from (header_of c) l ≡ returned c
unfolding lists_of header_of
fields_held c known v l b =
    of_chart (header_of c) l c (record {
      version = refl;
      locations = refl;
      initial = refl;
      timers = refl;
      known = known;
      few_locations = omega (arith, v.few_locations);
      some_location = v.some_location;
      initial_below = v.initial;
      few_timers = omega (arith, v.few_timers);
      accepting = each_accepting c.locations l.accepting 0 0 c.accepting
          (rising_each c.locations l.accepting 0 0 c.accepting v.accepting b.accepting);
      few_transitions = omega (arith, v.few_transitions);
      transitions = each_transitions l c.locations c.timers 0 0 c.transitions
          (transitions_held l c.locations c.timers v.few_timers 0 0 c.transitions v.transitions (record {
            sources = b.sources;
            targets = b.targets;
            events = b.events;
            starts = b.starts;
            test_counts = b.test_counts;
            test_timers = b.timers;
            codes = b.codes;
            constants = b.constants;
          }));
    })

pub valid_from : (c : Chart) → Storable c → (l : Lists) → Holds c l → chart_from (header_of c) l ≡ returned c
valid_from c s l b =
    let h = (storable_iff c).0 s in
    fields_from_lem (header_of c) l c (fields_held c h.known h.valid l b) h.not_refused
