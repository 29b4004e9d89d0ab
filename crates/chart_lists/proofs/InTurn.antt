-- A chart's transitions one after another: what lists that begin with the chart's own have of transition number i, and of its tests.
use mathlib.Core.Path.{◌≡◌, sym, ap, ◌∙◌}
use mathlib.Core.List.{List, [], ◌∷◌, ◌++◌, map, map-append, append_assoc}
use Prim.Native.Nat.{ℕ, ◌+◌, ◌≤◌, ◌<◌}
use native.Mathlib.Numerals.{add-one}
use native.Mathlib.Omega.{arith}
use lib.ListN.{length, get_or, take, drop, length-append, length-map, take-append-drop}
use lib.Seq.{take-suc, take_at, drop_at}
use Rattle.lists.proofs.Nth.{nth_below, below_nth, get_d_nth, get_d_map}
use Rattle.model.specs.Chart.{Test, Transition, Chart, Nth}
use Rattle.model.specs.Valid.{Valid}
use Rattle.model.specs.Live.{starts_set}
use Rattle.chart_lists.specs.Lists.{all_tests, lists_of, timers_of}
use Rattle.chart_lists.specs.Begins.{Begins}
use Rattle.chart_lists.proofs.Begins.{begins_get_d}
use Rattle.chart_lists.proofs.Holds.{timers_each}
use Rattle.chart_lists.proofs.Tests.{tests_append, tests_more, tests_front, timers_below}

-- the number of the tests before those of transition number i
abbrev pub tests_before : Chart → ℕ → ℕ
tests_before c i = length (all_tests (take i c.transitions))

-- a transition of that number
pub nth_transition : (c : Chart) (i : ℕ) → i < length c.transitions → (r : Transition) × Nth c i r
nth_transition c i h = let x = nth_below c.transitions i h in (x.0, record { there = x.1 })

module _ {c : Chart} {i : ℕ} {r : Transition} (n : Nth c i r) where
  in_range : i < length c.transitions
  in_range = below_nth c.transitions i n.there

  pub take_next : take (i + 1) c.transitions ≡ take i c.transitions ++ (r ∷ [])
  take_next =
      let h = in_range in
      rw (add-one i, take-suc c.transitions i r h)
      (ap (λ (x : Transition). take i c.transitions ++ (x ∷ [])) (get_d_nth c.transitions i r n.there))

  -- ---- its entries

  entry : (f : Transition → ℕ) {l : List ℕ} → Begins (map f c.transitions) l → get_or l i 0 ≡ f r
  entry f b =
      let h = in_range in
      begins_get_d b i 0 (omega (arith, length-map c.transitions f)) ∙ get_d_map f c.transitions i n.there

  pub source_at : {l : List ℕ} → Begins (lists_of c).sources l → get_or l i 0 ≡ r.source
  unfolding lists_of
  source_at b = entry (λ r. r.source) b

  pub target_at : {l : List ℕ} → Begins (lists_of c).targets l → get_or l i 0 ≡ r.target
  unfolding lists_of
  target_at b = entry (λ r. r.target) b

  pub event_at : {l : List ℕ} → Begins (lists_of c).events l → get_or l i 0 ≡ r.event
  unfolding lists_of
  event_at b = entry (λ r. r.event) b

  pub starts_at : {l : List ℕ} → Begins (lists_of c).starts l → get_or l i 0 ≡ starts_set r
  unfolding lists_of
  starts_at b = entry starts_set b

  pub test_count_at : {l : List ℕ} → Begins (lists_of c).test_counts l → get_or l i 0 ≡ length r.tests
  unfolding lists_of
  test_count_at b = entry (λ r. length r.tests) b

  -- ---- its tests

  tests_next : all_tests (take (i + 1) c.transitions) ≡ all_tests (take i c.transitions) ++ r.tests
  tests_next = rw take_next (tests_more (take i c.transitions) r)

  pub before_next : tests_before c (i + 1) ≡ tests_before c i + length r.tests
  before_next = ap length tests_next ∙ length-append (all_tests (take i c.transitions)) r.tests

  pub timers_room : tests_before c i + length r.tests ≤ length (lists_of c).timers
  timers_room =
      omega (arith, before_next, timers_each c, tests_front (take (i + 1) c.transitions) _ (take-append-drop (i + 1) c.transitions))

  -- one number of each of its tests, in a list that begins with that number of every test
  pub entries_next : (f : Test → ℕ) {l : List ℕ} → Begins (map f (all_tests c.transitions)) l
      → take (length r.tests) (drop (tests_before c i) l) ≡ map f r.tests
  entries_next f {l} b =
      let e : length (map f (all_tests (take i c.transitions))) ≡ tests_before c i = length-map (all_tests (take i c.transitions)) f in
      rw (all, drop_at _ _ _ e) (take_at _ _ _ (length-map r.tests f))
    where
      after : List Test
      after = all_tests (drop (i + 1) c.transitions)

      beyond : List ℕ
      beyond = drop (length (map f (all_tests c.transitions))) l

      split : all_tests c.transitions ≡ (all_tests (take i c.transitions) ++ r.tests) ++ after
      split = ap all_tests (sym (take-append-drop (i + 1) c.transitions)) ∙ tests_append (take (i + 1) c.transitions) _
          ∙ ap (λ (ts : List Test). ts ++ after) tests_next

      all : l ≡ map f (all_tests (take i c.transitions)) ++ (map f r.tests ++ (map f after ++ beyond))
      all =
          sym (take-append-drop (length (map f (all_tests c.transitions))) l) ∙ ap (λ (xs : List ℕ). xs ++ beyond) (b.is ∙ ap (map f) split)
          ∙ simp (map-append, append_assoc)

  -- the timers of its tests
  pub timers_next : {l : List ℕ} → Begins (lists_of c).timers l
      → take (length r.tests) (drop (tests_before c i) l) ≡ timers_of r.tests
  unfolding lists_of
  timers_next b = entries_next (λ t. t.timer) b

  -- each of them is one of 64
  pub timers_small : {W : ℕ} → Valid W c → {l : List ℕ} → Begins (lists_of c).timers l → (k : ℕ) → k < length r.tests
      → get_or l (tests_before c i + k) 0 < 64
  timers_small valid b k h = rw (begins_get_d b (tests_before c i + k) 0 (omega (arith, h, timers_room))) (timers_below valid (tests_before c i + k))
