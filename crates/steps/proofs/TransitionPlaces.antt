-- What stands in lists that hold a chart at the number of a transition, and at the place of a test. The one long step: a test of transition i stands
-- among all tests behind those of the transitions before it.
use mathlib.Core.Path.{◌≡◌, refl, sym, ap, ◌∙◌}
use mathlib.Core.Option.{none, some, none-ne-some, some-injective}
use mathlib.Core.List.{List, [], ◌∷◌, ◌++◌, map}
use Prim.Native.Nat.{ℕ, zero, suc, ◌+◌, ◌≤◌, ◌<◌}
use native.Mathlib.Omega.{arith}
use lib.ListN.{length, get_or, get_elem?, take, drop, length-map, take-append-drop}
use Rattle.lists.proofs.Nth.{nth_below, below_nth, get_d_map, nth_past}
use Rattle.timer_set.specs.Members.{set_of}
use Rattle.comparison.specs.Comparison.{code_of}
use Rattle.model.specs.Chart.{Test, Transition, Chart, Nth}
use Rattle.model.specs.Valid.{ValidTest}
use Rattle.model.specs.Live.{starts_set}
use Rattle.model.proofs.Transitions.{all_nth, nth_valid}
use Rattle.chart_lists.specs.Lists.{Lists, all_tests, lists_of}
use Rattle.chart_lists.specs.Begins.{Begins}
use Rattle.chart_lists.specs.Holds.{Holds}
use Rattle.chart_lists.proofs.Begins.{begins_get_d, begins_room}
use Rattle.chart_lists.proofs.Tests.{tests_append}
use Rattle.steps.specs.StepLists.{FirstTests}

module _ {A : Type 0} where
  nth_left : (l m : List A) (i : ℕ) {a : A} → get_elem? l i ≡ some a → get_elem? (l ++ m) i ≡ some a
  nth_left [] m i e = absurd (none-ne-some _ e)
  nth_left (x ∷ l) m zero e = e
  nth_left (x ∷ l) m (suc i) e = nth_left l m i e

  nth_right : (l m : List A) (i : ℕ) → get_elem? (l ++ m) (length l + i) ≡ get_elem? m i
  nth_right [] m i = let e : 0 + i ≡ i = omega arith in ap (get_elem? m) e
  nth_right (x ∷ l) m i =
      let e : suc (length l) + i ≡ suc (length l + i) = omega arith in ap (get_elem? (x ∷ (l ++ m))) e ∙ nth_right l m i

  -- the element at a place, and the list from there on
  pub nth_drop : (l : List A) (i : ℕ) → i < length l → (a : A) × (get_elem? l i ≡ some a) × (drop i l ≡ a ∷ drop (suc i) l)
  nth_drop [] i h = absurd (omega arith)
  nth_drop (x ∷ l) zero h = (x, refl, refl)
  nth_drop (x ∷ l) (suc i) h = nth_drop l i (omega arith)

  -- a list that begins with a number of each element
  module _ (f : A → ℕ) (l : List A) {xs : List ℕ} (b : Begins (map f l) xs) (i : ℕ) {a : A} (e : get_elem? l i ≡ some a) where
    within : i < length (map f l)
    within = rw length-map (below_nth l i e)

    entry_within : i < length xs
    entry_within = omega (arith, within, begins_room b)

    entry_is : get_or xs i 0 ≡ f a
    entry_is = begins_get_d b i 0 within ∙ get_d_map f l i e

module _ (c : Chart) (i : ℕ) where
  -- 14
  pub no_transition : length c.transitions ≤ i → get_elem? c.transitions i ≡ none
  no_transition h = nth_past c.transitions i h

  pub some_transition : i < length c.transitions → (r : Transition) × Nth c i r
  some_transition h = let n = nth_below c.transitions i h in (n.0, record { there = n.1 })

-- the lists have the transition r at place i
pub record TransitionAt (r : Transition) (i : ℕ) (l : Lists) : Type 0 where
  pub source_within : i < length l.sources
  pub source : get_or l.sources i 0 ≡ r.source
  pub target_within : i < length l.targets
  pub target : get_or l.targets i 0 ≡ r.target
  pub starts_within : i < length l.starts
  pub started : get_or l.starts i 0 ≡ set_of r.starts
  pub number_within : i < length l.test_counts
  pub number : get_or l.test_counts i 0 ≡ length r.tests

-- they have the test t at place p, and its timer is one of the 64
pub record TestAt (t : Test) (p : ℕ) (l : Lists) : Type 0 where
  pub timer_within : p < length l.timers
  pub code_within : p < length l.codes
  pub constant_within : p < length l.constants
  pub timer : get_or l.timers p 0 ≡ t.timer
  pub code : get_or l.codes p 0 ≡ code_of t.comparison
  pub constant : get_or l.constants p 0 ≡ t.constant
  pub below : t.timer < 64

module _ {c : Chart} {l : Lists} (h : Holds c l) {i : ℕ} {r : Transition} (n : Nth c i r) where
  pub transition_at : TransitionAt r i l
  unfolding lists_of starts_set
  transition_at =
      let rs = c.transitions in
      let e = n.there in
      record {
        source_within = entry_within _ rs h.sources i e;
        source = entry_is _ rs h.sources i e;
        target_within = entry_within _ rs h.targets i e;
        target = entry_is _ rs h.targets i e;
        starts_within = entry_within _ rs h.starts i e;
        started = entry_is _ rs h.starts i e;
        number_within = entry_within _ rs h.test_counts i e;
        number = entry_is _ rs h.test_counts i e;
      }

  -- a test of the transition stands among all tests behind those of the transitions before
  nth_test : (m : ℕ) (t : Test) → get_elem? r.tests m ≡ some t
      → get_elem? (all_tests c.transitions) (length (all_tests (take i c.transitions)) + m) ≡ some t
  unfolding all_tests
  nth_test m t f =
      let rs = c.transitions in
      let d = nth_drop rs i (below_nth rs i n.there) in
      let same : r ≡ d.0 = some-injective _ _ (sym n.there ∙ d.1) in
      let others = all_tests (drop (suc i) rs) in
      let rest : all_tests (drop i rs) ≡ r.tests ++ others =
      ap all_tests d.2 ∙ ap (λ (q : Transition). q.tests ++ others) (sym same) in
      let all : all_tests rs ≡ all_tests (take i rs) ++ (r.tests ++ others) =
      ap all_tests (sym (take-append-drop i rs)) ∙ tests_append (take i rs) (drop i rs) ∙ ap (λ (q : List Test). all_tests (take i rs) ++ q) rest in
      rw all (nth_right (all_tests (take i rs)) (r.tests ++ others) m ∙ nth_left r.tests others m f)

  pub test_at_lem : {firsts : List ℕ} → FirstTests c firsts → (m : ℕ) (t : Test) → get_elem? r.tests m ≡ some t → TestAt t (get_or firsts i 0 + m) l
  unfolding lists_of
  test_at_lem {firsts} f m t g =
      let all = all_tests c.transitions in
      let e : get_elem? all (get_or firsts i 0 + m) ≡ some t =
      ap (λ (p : ℕ). get_elem? all (p + m)) (f.place i (below_nth c.transitions i n.there)) ∙ nth_test m t g in
      let small = all_nth (ValidTest h.width c.timers) r.tests m (nth_valid h.valid n).tests g in
      record {
        timer_within = entry_within _ all h.timers _ e;
        code_within = entry_within _ all h.codes _ e;
        constant_within = entry_within _ all h.constants _ e;
        timer = entry_is _ all h.timers _ e;
        code = entry_is _ all h.codes _ e;
        constant = entry_is _ all h.constants _ e;
        below = omega (arith, small.timer, h.valid.few_timers);
      }
