-- The lists that describe a chart hold it: each begins with the chart's own. What is hard is that the tests of all transitions stand behind each
-- other in three lists, each transition's at a place that the ones before it make.
use mathlib.Core.Path.{◌≡◌, refl, sym, ap, ◌∙◌}
use mathlib.Core.Option.{some}
use mathlib.Core.List.{List, [], ◌∷◌, map, map-id, map-append}
use Prim.Native.Nat.{ℕ, suc, ◌+◌, ◌<◌, ◌^◌}
use lib.ListN.{length, drop, get_elem?, length-map}
use Rattle.timer_set.specs.Members.{set_of}
use Rattle.timer_set.proofs.Members.{set_of_members}
use Rattle.comparison.specs.Comparison.{code_of}
use Rattle.model.specs.Answer.{returned}
use Rattle.model.specs.Chart.{Test, Transition, Chart}
use Rattle.model.specs.Live.{starts_set}
use Rattle.model.specs.Version.{widest}
use Rattle.chart_lists.specs.Lists.{Lists, lists_of, all_tests, starts_of}
use Rattle.chart_lists.specs.Begins.{Begins}
use Rattle.chart_lists.specs.Holds.{Holds}
use Rattle.chart_lists.specs.Header.{header_of}
use Rattle.chart_lists.specs.declared.Header.{Header}
use Rattle.list_judging.specs.FromLists.{transition_from, chart_from}
use Rattle.list_judging.specs.Typed.{Typed}
use Rattle.list_judging.proofs.Parts.{accepting_item, next_lowest, test_item, no_state, tests_each, next_tests, TransitionsEach}
use Rattle.list_judging.proofs.TransitionOf.{accepting_of, TestOf, test_of, TransitionOf, transition_of}
use Rattle.list_judging.proofs.ChartOf.{ChartOf, chart_of_lem, from_fields, each_accepted, accepted_length, each_transition, transition_count}
use Rattle.list_judging.proofs.Beginnings.{begins_append, each_begins}
use Rattle.list_judging.proofs.FromValid.{all_nth, from_valid}

-- of each test something
module _ (l : Lists) (locations timers : ℕ) (f : Test → ℕ) (w : List ℕ)
    (e : (k : ℕ) (t : Test) → TestOf l timers k t → get_elem? w k ≡ some (f t)) where
  pub tests_begin : (i k : ℕ) (rs : List Transition) → TransitionsEach l locations timers i k rs → Begins (map f (all_tests rs)) (drop k w)
  unfolding all_tests
  tests_begin i k [] h = record { is = refl }
  tests_begin i k (r ∷ rs) h =
      let own = tests_each l timers i k (length r.tests) r.tests (transition_of l locations timers i k r h.0).tests in
      let first = each_begins (test_item l timers i) no_state f w (λ k s t q. e k t (test_of l timers i k t q)) k 0 r.tests own in
      let others = tests_begin (suc i) (k + length r.tests) rs h.1 in
      rw (map-append f r.tests (all_tests rs))
      (begins_append (map f r.tests) (map f (all_tests rs)) w k first (rw (length-map r.tests f) others))

module _ (m : Header) (l : Lists) (c : Chart) (e : chart_from m l ≡ returned c) where
  abbrev fields : ChartOf m l c
  fields = chart_of_lem m l c (from_fields m l c e).0

  pub from_header : header_of c ≡ m
  unfolding header_of
  from_header = λ j. record {
    version = fields.version j;
    locations = fields.locations j;
    initial = fields.initial j;
    timers = fields.timers j;
    accepting = accepted_length m l c fields j;
    transitions = transition_count m l c fields j;
  }

  accepting_begin : Begins c.accepting l.accepting
  accepting_begin =
      rw (← map-id c.accepting)
      (each_begins (accepting_item m.locations l.accepting) next_lowest (λ x. x) l.accepting
      (λ k lo x q. (accepting_of m.locations l.accepting k lo x q).0) 0 0 c.accepting (each_accepted m l c fields))

  transitions_begin : (f : Transition → ℕ) (w : List ℕ)
      → ((i k : ℕ) (r : Transition) → TransitionOf l m.locations m.timers i k r → get_elem? w i ≡ some (f r))
      → Begins (map f c.transitions) w
  transitions_begin f w g =
      each_begins (transition_from l m.locations m.timers) next_tests f w
      (λ i k r q. g i k r (transition_of l m.locations m.timers i k r q)) 0 0 c.transitions (each_transition m l c fields)

  all_tests_begin : (f : Test → ℕ) (w : List ℕ) → ((k : ℕ) (t : Test) → TestOf l m.timers k t → get_elem? w k ≡ some (f t))
      → Begins (map f (all_tests c.transitions)) w
  all_tests_begin f w g = tests_begin l m.locations m.timers f w g 0 0 c.transitions (each_transition m l c fields)

  module _ (typed : Typed l) where
    starts_begin : Begins (starts_of c.transitions) l.starts
    unfolding starts_set
    starts_begin = transitions_begin starts_set l.starts (λ i k r h.
        let small = all_nth (λ x. x < 2 ^ 64) l.starts i typed.starts h.starts in
        h.starts ∙ ap some (sym (ap set_of h.starts_are ∙ set_of_members h.word small)))

    pub from_holds : Holds c l
    unfolding lists_of
    from_holds = record {
      width = widest;
      valid = from_valid l typed m c (from_fields m l c e).0;
      accepting = accepting_begin;
      sources = transitions_begin (λ r. r.source) l.sources (λ i k r h. h.source);
      targets = transitions_begin (λ r. r.target) l.targets (λ i k r h. h.target);
      events = transitions_begin (λ r. r.event) l.events (λ i k r h. h.event);
      starts = starts_begin;
      test_counts = transitions_begin (λ r. length r.tests) l.test_counts (λ i k r h. h.count);
      timers = all_tests_begin (λ t. t.timer) l.timers (λ k t h. h.timer);
      codes = all_tests_begin (λ t. code_of t.comparison) l.codes (λ k t h. h.code);
      constants = all_tests_begin (λ t. t.constant) l.constants (λ k t h. h.constant);
    }
