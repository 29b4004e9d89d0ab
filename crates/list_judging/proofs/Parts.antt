-- The parts that the code judges make up the chart that the lists describe: its lists of things are items one after another, and its fields are
-- judged in the same order.
use mathlib.Core.Path.{◌≡◌, refl, sym, ◌∙◌}
use mathlib.Core.Bool.{Bool, true, false}
use mathlib.Core.List.{List, ◌∷◌}
use Prim.Native.Nat.{ℕ, zero, suc, ◌+◌}
use lib.Dec.{leb}
use lib.ListN.{length}
use Rattle.model.specs.Answer.{Answer, returned, then, unless, nowhere}
use Rattle.model.specs.Chart.{Test, Transition}
use Rattle.chart_lists.specs.Lists.{Lists}
use Rattle.list_judging.specs.FromLists.{entry_at, entry_below, accepting_from}
use Rattle.list_judging.specs.FromLists.{test_from, tests_from, transition_from, transitions_from}
use Rattle.list_judging.specs.Parts.{check_code, check_test, check_tests, check_count, check_ends, check_starts}
use Rattle.list_judging.specs.Parts.{sizes_of, check_transition}
use Rattle.model.proofs.Answers.{then_id, then_then, then_unless, then_same}
use Rattle.list_judging.proofs.Items.{items, Each, items_length, items_each, each_items}

-- ---- accepting locations

-- one that is at least lo, and what the next is at least
unfoldable pub accepting_item : (locations : ℕ) → List ℕ → (k lo : ℕ) → Answer ℕ
accepting_item locations l k lo = then (entry_below l k locations 5 nowhere) (λ x. unless (leb lo x) 7 nowhere (returned x))

abbrev pub next_lowest : ℕ → ℕ → ℕ
next_lowest lo x = suc x

abbrev pub accepting_items : (locations : ℕ) → List ℕ → (k lo n : ℕ) → Answer (List ℕ)
accepting_items locations l k lo n = items (accepting_item locations l) next_lowest k lo n

abbrev pub AcceptingEach : (locations : ℕ) → List ℕ → (k lo : ℕ) → List ℕ → Type 0
AcceptingEach locations l k lo xs = Each (accepting_item locations l) next_lowest k lo xs

module _ (locations : ℕ) (l : List ℕ) where
  pub accepting_items_lem : (k lo n : ℕ) → accepting_from locations l k lo n ≡ accepting_items locations l k lo n
  unfolding accepting_from items accepting_item
  accepting_items_lem k lo zero = refl
  accepting_items_lem k lo (suc n) =
      then_same (entry_below l k locations 5 nowhere) _ _ (λ x. each x (leb lo x) (accepting_items_lem (suc k) (suc x) n))
      ∙ sym (then_then (entry_below l k locations 5 nowhere) _ _)
    where
      each : (x : ℕ) (b : Bool) → accepting_from locations l (suc k) (suc x) n ≡ accepting_items locations l (suc k) (suc x) n
          → unless b 7 nowhere (then (accepting_from locations l (suc k) (suc x) n) (λ xs. returned (x ∷ xs)))
          ≡ then (unless b 7 nowhere (returned x)) (λ x. then (accepting_items locations l (suc k) (suc x) n) (λ xs. returned (x ∷ xs)))
      each x true e = rw e
      each x false e = refl

  pub accepting_length : (k lo n : ℕ) (xs : List ℕ) → accepting_from locations l k lo n ≡ returned xs → length xs ≡ n
  accepting_length k lo n xs e = items_length (accepting_item locations l) next_lowest k lo n xs (sym (accepting_items_lem k lo n) ∙ e)

  pub accepting_each : (k lo n : ℕ) (xs : List ℕ) → accepting_from locations l k lo n ≡ returned xs → AcceptingEach locations l k lo xs
  accepting_each k lo n xs e = items_each (accepting_item locations l) next_lowest k lo n xs (sym (accepting_items_lem k lo n) ∙ e)

  pub each_accepting : (k lo : ℕ) (xs : List ℕ) → AcceptingEach locations l k lo xs → accepting_from locations l k lo (length xs) ≡ returned xs
  each_accepting k lo xs h = accepting_items_lem k lo (length xs) ∙ each_items (accepting_item locations l) next_lowest k lo xs h

-- ---- tests

-- a test by its place alone
abbrev pub test_item : Lists → (timers i k s : ℕ) → Answer Test
test_item l timers i k s = test_from l timers i k

abbrev pub no_state : ℕ → Test → ℕ
no_state s t = s

abbrev pub TestsEach : Lists → (timers i k : ℕ) → List Test → Type 0
TestsEach l timers i k ts = Each (test_item l timers i) no_state k 0 ts

module _ (l : Lists) (timers i : ℕ) where
  pub tests_items : (k g : ℕ) → tests_from l timers i k g ≡ items (test_item l timers i) no_state k 0 g
  unfolding tests_from items
  tests_items k zero = refl
  tests_items k (suc g) = then_same (test_from l timers i k) _ _ (λ t. rw (tests_items (suc k) g))

  pub tests_length : (k g : ℕ) (ts : List Test) → tests_from l timers i k g ≡ returned ts → length ts ≡ g
  tests_length k g ts e = items_length (test_item l timers i) no_state k 0 g ts (sym (tests_items k g) ∙ e)

  pub tests_each : (k g : ℕ) (ts : List Test) → tests_from l timers i k g ≡ returned ts → TestsEach l timers i k ts
  tests_each k g ts e = items_each (test_item l timers i) no_state k 0 g ts (sym (tests_items k g) ∙ e)

  pub each_tests : (k : ℕ) (ts : List Test) → TestsEach l timers i k ts → tests_from l timers i k (length ts) ≡ returned ts
  each_tests k ts h = tests_items k (length ts) ∙ each_items (test_item l timers i) no_state k 0 ts h

-- ---- transitions

-- the place of the next one's first test
abbrev pub next_tests : ℕ → Transition → ℕ
next_tests k r = k + length r.tests

abbrev pub TransitionsEach : Lists → (locations timers i k : ℕ) → List Transition → Type 0
TransitionsEach l locations timers i k rs = Each (transition_from l locations timers) next_tests i k rs

module _ (l : Lists) (locations timers : ℕ) where
  pub transitions_items : (i k n : ℕ) → transitions_from l locations timers i k n ≡ items (transition_from l locations timers) next_tests i k n
  unfolding transitions_from items
  transitions_items i k zero = refl
  transitions_items i k (suc n) =
      then_same (transition_from l locations timers i k) _ _ (λ r. rw (transitions_items (suc i) (k + length r.tests) n))

  pub transitions_length : (i k n : ℕ) (rs : List Transition) → transitions_from l locations timers i k n ≡ returned rs → length rs ≡ n
  transitions_length i k n rs e = items_length (transition_from l locations timers) next_tests i k n rs (sym (transitions_items i k n) ∙ e)

  pub transitions_each : (i k n : ℕ) (rs : List Transition) → transitions_from l locations timers i k n ≡ returned rs
      → TransitionsEach l locations timers i k rs
  transitions_each i k n rs e = items_each (transition_from l locations timers) next_tests i k n rs (sym (transitions_items i k n) ∙ e)

  pub each_transitions : (i k : ℕ) (rs : List Transition) → TransitionsEach l locations timers i k rs
      → transitions_from l locations timers i k (length rs) ≡ returned rs
  each_transitions i k rs h = transitions_items i k (length rs) ∙ each_items (transition_from l locations timers) next_tests i k rs h

-- ---- fields one after another

pub check_test_lem : (l : Lists) (timers i k : ℕ) → check_test l timers i k
    ≡ then (entry_below l.timers k timers 6 i) (λ j. then (check_code l.codes i k) (λ code. entry_at l.constants k))
unfolding check_test test_from check_code
check_test_lem l timers i k = simp (then_then, then_id)

pub check_transition_lem : (l : Lists) (locations timers i k : ℕ) → check_transition l locations timers i k
    ≡ then (check_ends l.sources l.targets l.events locations i) (λ e.
    then (check_starts l.starts timers i) (λ s.
    then (check_count l l.test_counts timers i k) (λ g.
    returned (record { starts = s; tests = g }))))
unfolding check_transition transition_from check_ends check_starts check_count check_tests sizes_of
check_transition_lem l locations timers i k = simp (then_then, then_unless)
