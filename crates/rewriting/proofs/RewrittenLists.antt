-- The lists of the rewritten chart, from those of the chart: all but the starts and the timers of tests stay as they are. What is hard is that no
-- test is dropped: each timer that is tested has a number there.
use mathlib.Core.Path.{◌≡◌, refl, sym, ap, ap₂, ◌∙◌}
use mathlib.Core.Option.{some}
use mathlib.Core.List.{List, [], ◌∷◌, ◌++◌, map, map-map, map-append, filter_map}
use Prim.Native.Nat.{ℕ, suc}
use lib.ListN.{length, get_elem?, length-map}
use Rattle.comparison.specs.Comparison.{code_of}
use Rattle.model.specs.Chart.{Test, Transition, Chart, Nth}
use Rattle.model.specs.Valid.{Valid}
use Rattle.model.specs.Rewrite.{Numbering, new_tests, new_transition, rewritten_by}
use Rattle.model.specs.Plan.{Numbered}
use Rattle.model.proofs.Rewritten.{on_timer, tested_head, tested_tail, tests_some}
use Rattle.chart_lists.specs.Lists.{Lists, lists, all_tests, lists_of, test_counts_of}
use Rattle.chart_lists.specs.Begins.{Begins}
use Rattle.chart_lists.specs.Holds.{Holds}
use Rattle.chart_lists.specs.declared.Header.{Header}
use Rattle.chart_lists.specs.Header.{header_of}

-- every timer that a transition of the list tests has a number at its source
abbrev AllNumbered : Numbering → List Transition → Type 0
AllNumbered N rs = (i : ℕ) (r : Transition) → get_elem? rs i ≡ some r → Numbered N r.source r.tests

module _ (N : Numbering) where
  -- what a test has beside its timer is kept, test by test
  module _ (f : Test → ℕ) (other : (t : Test) (k : ℕ) → f (on_timer t k) ≡ f t) where
    tests_kept : (q : ℕ) (ts : List Test) → Numbered N q ts → map f (new_tests N q ts) ≡ map f ts
    unfolding new_tests filter_map
    tests_kept q [] h = refl
    tests_kept q (t ∷ ts) h =
        let x = h t.timer (tested_head t ts) in
        rw (tests_some N q t ts x.1) (ap₂ ◌∷◌ (other t x.0) (tests_kept q ts (λ j m. h j (tested_tail j t ts m))))

    all_kept : (rs : List Transition) → AllNumbered N rs → map f (all_tests (map (new_transition N) rs)) ≡ map f (all_tests rs)
    unfolding all_tests new_transition
    all_kept [] h = refl
    all_kept (r ∷ rs) h =
        map-append f (new_tests N r.source r.tests) _
        ∙ ap₂ ◌++◌ (tests_kept r.source r.tests (h 0 r refl)) (all_kept rs (λ i s n. h (suc i) s n))
        ∙ sym (map-append f r.tests (all_tests rs))

  -- no test is dropped
  length_kept : (q : ℕ) (ts : List Test) → Numbered N q ts → length (new_tests N q ts) ≡ length ts
  length_kept q ts h =
      let none : Test → ℕ = λ t. 0 in
      sym (length-map (new_tests N q ts) none) ∙ ap length (tests_kept none (λ t k. refl) q ts h) ∙ length-map ts none

  test_counts_kept : (rs : List Transition) → AllNumbered N rs
      → test_counts_of (map (new_transition N) rs) ≡ test_counts_of rs
  unfolding new_transition
  test_counts_kept [] h = refl
  test_counts_kept (r ∷ rs) h = ap₂ ◌∷◌ (length_kept r.source r.tests (h 0 r refl)) (test_counts_kept rs (λ i s n. h (suc i) s n))

-- lists with other starts and other timers of tests, and a header with another number of timers
abbrev pub with_names : Lists → (starts timers : List ℕ) → Lists
with_names l w j = lists l.accepting l.sources l.targets l.events w l.test_counts j l.codes l.constants

abbrev pub with_timers : Header → ℕ → Header
with_timers m n = record {
  version = m.version;
  locations = m.locations;
  initial = m.initial;
  timers = n;
  accepting = m.accepting;
  transitions = m.transitions;
}

begins_same : {xs ys l : List ℕ} → xs ≡ ys → Begins ys l → Begins xs l
begins_same e b = rw e b

module _ (N : Numbering) (c : Chart) where
  -- the starts and the timers of tests are new, the other lists the chart's
  pub holds_rewritten : ((i : ℕ) (r : Transition) → Nth c i r → Numbered N r.source r.tests) → {W : ℕ} → Valid W (rewritten_by N c)
      → {l : Lists} → Holds c l → {starts timers : List ℕ}
      → Begins (lists_of (rewritten_by N c)).starts starts → Begins (lists_of (rewritten_by N c)).timers timers
      → Holds (rewritten_by N c) (with_names l starts timers)
  unfolding lists_of rewritten_by new_transition
  holds_rewritten numbered {W} valid h w j =
      let each : AllNumbered N c.transitions = λ i r n. numbered i r (record { there = n }) in
      record {
        width = W;
        valid = valid;
        accepting = h.accepting;
        sources = begins_same (map-map (λ (r : Transition). r.source) (new_transition N) c.transitions) h.sources;
        targets = begins_same (map-map (λ (r : Transition). r.target) (new_transition N) c.transitions) h.targets;
        events = begins_same (map-map (λ (r : Transition). r.event) (new_transition N) c.transitions) h.events;
        starts = w;
        test_counts = begins_same (test_counts_kept N c.transitions each) h.test_counts;
        timers = j;
        codes = begins_same (all_kept N (λ t. code_of t.comparison) (λ t k. refl) c.transitions each) h.codes;
        constants = begins_same (all_kept N (λ t. t.constant) (λ t k. refl) c.transitions each) h.constants;
      }

  -- the header is the chart's but for the number of timers
  pub header_rewritten : {m : Header} → m ≡ header_of c → {n : ℕ} → n ≡ N.used → with_timers m n ≡ header_of (rewritten_by N c)
  unfolding header_of rewritten_by
  header_rewritten e u = rw (e, u, length-map c.transitions (new_transition N))
