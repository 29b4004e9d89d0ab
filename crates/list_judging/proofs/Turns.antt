-- The loops that judge accepting locations, tests and transitions, at their first turn; an item by what was kept of it; and how many timers
-- transitions start and how many tests they have at most.
use mathlib.Core.Path.{◌≡◌, ap, ◌∙◌}
use mathlib.Core.List.{List, [], ◌∷◌, map}
use Prim.Native.Nat.{ℕ, ◌+◌, ◌*◌, ◌≤◌, ◌<◌}
use native.Mathlib.Nat.{add_assoc, add-zero, zero-add}
use native.Mathlib.Omega.{arith}
use lib.ListN.{length}
use borrow.Author.Tests.{le-leb, lt-leb}
use Rattle.lists.specs.Lists.{sum_of}
use Rattle.lists.proofs.Gather.{rising_length}
use Rattle.lists.proofs.Sums.{sum_most}
use Rattle.timer_set.specs.Members.{members}
use Rattle.timer_set.proofs.Members.{members_rising}
use Rattle.model.specs.Answer.{returned, refused, nowhere}
use Rattle.model.specs.Chart.{Test, Transition}
use Rattle.chart_lists.specs.Lists.{Lists}
use Rattle.list_judging.specs.declared.transition.Sizes.{Sizes}
use Rattle.list_judging.specs.FromLists.{entry_below, test_from, transition_from, transitions_from}
use Rattle.list_judging.specs.Parts.{check_accepting, check_test, check_tests, sizes_of, total_sizes, check_transition, check_transitions}
use Rattle.model.proofs.Answers.{kept_result, kept_refused}
use Rattle.list_judging.proofs.Items.{added, Turn, turn_first, turn_again, each_all}
use Rattle.list_judging.proofs.TransitionOf.{transition_of}
use Rattle.list_judging.proofs.Parts.{accepting_item, next_lowest, accepting_items_lem}
use Rattle.list_judging.proofs.Parts.{test_item, no_state, tests_items}
use Rattle.list_judging.proofs.Parts.{next_tests, transitions_items, transitions_each, transitions_length}

-- one for each element
abbrev count : {A : Type 0} → ℕ → A → ℕ
count n a = n + 1

counted : {A : Type 0} (xs : List A) (n : ℕ) → added count n xs ≡ n + length xs
unfolding added
counted [] n = omega arith
counted (a ∷ xs) n = omega (arith, counted xs (n + 1))

-- k of n accepting locations are judged, the next is at least lo
abbrev pub AcceptingTurn : (locations : ℕ) → List ℕ → (n lo k : ℕ) → Type 0
AcceptingTurn locations l n lo k = Turn (accepting_item locations l) next_lowest count (check_accepting locations l n) n k k lo k

pub accepting_first : (locations : ℕ) (l : List ℕ) (n : ℕ) → AcceptingTurn locations l n 0 0
unfolding check_accepting
accepting_first locations l n =
    rw (accepting_items_lem locations l 0 0 n)
    (turn_first (accepting_item locations l) next_lowest count length 0 (λ xs. omega (arith, counted xs 0)) 0 0 n)

-- t of g tests are judged, the next is at place k
abbrev pub TestsTurn : Lists → (timers i first g k t : ℕ) → Type 0
TestsTurn l timers i first g k t = Turn (test_item l timers i) no_state count (check_tests l timers i first g) g t k 0 t

pub tests_first : (l : Lists) (timers i k g : ℕ) → TestsTurn l timers i k g k 0
unfolding check_tests
tests_first l timers i k g =
    rw (tests_items l timers i k g) (turn_first (test_item l timers i) no_state count length 0 (λ ts. omega (arith, counted ts 0)) k 0 g)

-- a transition's sizes added to those of others
abbrev add_sizes : Sizes → Transition → Sizes
add_sizes z r = record { starts = z.starts + length r.starts; tests = z.tests + length r.tests }

added_sizes : (rs : List Transition) (s g : ℕ)
    → added add_sizes (record { starts = s; tests = g }) rs
    ≡ record {
      starts = s + sum_of (map (λ (r : Transition). length r.starts) rs);
      tests = g + sum_of (map (λ (r : Transition). length r.tests) rs);
    }
unfolding added sum_of
added_sizes [] s g = rw (add-zero s, add-zero g)
added_sizes (r ∷ rs) s g = rw (← add_assoc s, ← add_assoc g) (added_sizes rs (s + length r.starts) (g + length r.tests))

-- i of n transitions are judged; they start so many timers and have so many tests, the next one's begin there
abbrev pub TransitionsTurn : Lists → (locations timers n starts tests i : ℕ) → Type 0
TransitionsTurn l locations timers n starts tests i =
    Turn (transition_from l locations timers) next_tests add_sizes (check_transitions l locations timers n) n i i tests
    (record { starts = starts; tests = tests })

pub transitions_first : (l : Lists) (locations timers n : ℕ) → TransitionsTurn l locations timers n 0 0 0
unfolding check_transitions total_sizes
transitions_first l locations timers n =
    rw (transitions_items l locations timers 0 0 n)
    (turn_first (transition_from l locations timers) next_tests add_sizes total_sizes (record { starts = 0; tests = 0 })
    (λ rs. added_sizes rs 0 0 ∙ rw (zero-add, zero-add)) 0 0 n)

pub transitions_again : (l : Lists) (locations timers : ℕ) {n starts tests i : ℕ} → TransitionsTurn l locations timers n starts tests i → i < n
    → (r : Transition) → transition_from l locations timers i tests ≡ returned r → {s g : ℕ} → length r.starts ≡ s → length r.tests ≡ g
    → TransitionsTurn l locations timers n (starts + s) (tests + g) (i + 1)
transitions_again l locations timers {n} {starts} {tests} {i} t h r e es eg =
    turn_again t h (i + 1) _ _ e (omega arith) (rw eg) (rw (es, eg))

-- ---- an accepting location

module _ (locations : ℕ) (l : List ℕ) (k lo : ℕ) where
  pub accepting_refused : {n p : ℕ} → entry_below l k locations 5 nowhere ≡ refused n p → accepting_item locations l k lo ≡ refused n p
  unfolding accepting_item
  accepting_refused e = rw e

  module _ {x : ℕ} (e : entry_below l k locations 5 nowhere ≡ returned x) where
    pub accepting_low : x < lo → accepting_item locations l k lo ≡ refused 7 nowhere
    unfolding accepting_item
    accepting_low h = rw (e, lt-leb lo x h)

    pub accepting_in : lo ≤ x → accepting_item locations l k lo ≡ returned x
    unfolding accepting_item
    accepting_in h = rw (e, le-leb lo x h)

-- ---- items

module _ (l : Lists) (timers i k : ℕ) where
  pub test_refused : {n p : ℕ} → check_test l timers i k ≡ refused n p → test_from l timers i k ≡ refused n p
  unfolding check_test
  test_refused e = kept_refused (test_from l timers i k) _ e

  pub test_found : {v : ℕ} → check_test l timers i k ≡ returned v → (t : Test) × (test_from l timers i k ≡ returned t)
  unfolding check_test
  test_found e = let x = kept_result (test_from l timers i k) _ e in (x.0, x.1)

module _ (l : Lists) (locations timers i k : ℕ) where
  pub transition_refused : {n p : ℕ} → check_transition l locations timers i k ≡ refused n p → transition_from l locations timers i k ≡ refused n p
  unfolding check_transition
  transition_refused e = kept_refused (transition_from l locations timers i k) _ e

  pub transition_found : {z : Sizes} → check_transition l locations timers i k ≡ returned z
      → (r : Transition) × (transition_from l locations timers i k ≡ returned r) × (sizes_of r ≡ z)
  unfolding check_transition
  transition_found e = kept_result (transition_from l locations timers i k) _ e

-- ---- lengths

pub members_few : (w : ℕ) → length (members w) ≤ 64
members_few w = omega (arith, rising_length 64 0 (members w) (members_rising w) (omega arith))

module _ (l : Lists) (locations timers i k : ℕ) (r : Transition) (e : transition_from l locations timers i k ≡ returned r) where
  pub from_few : (length r.starts ≤ 64) × (length r.tests ≤ 8)
  from_few = let h = transition_of l locations timers i k r e in (rw h.starts_are (members_few h.word), h.few_tests)

-- the length of a record by the sizes
pub length_sizes : (r : Transition) (s g : ℕ) → sizes_of r ≡ record { starts = s; tests = g } → (length r.starts ≡ s) × (length r.tests ≡ g)
unfolding sizes_of
length_sizes r s g e = (ap (λ (z : Sizes). z.starts) e, ap (λ (z : Sizes). z.tests) e)

-- n transitions start at most 64 timers each and have at most 8 tests each
pub transitions_most : (l : Lists) (locations timers n : ℕ) {z : Sizes} → check_transitions l locations timers n ≡ returned z
    → (z.starts ≤ 64 * n) × (z.tests ≤ 8 * n)
unfolding check_transitions total_sizes
transitions_most l locations timers n {z} e =
    let x = kept_result (transitions_from l locations timers 0 0 n) _ e in
    let rs = x.0 in
    let h = transitions_each l locations timers 0 0 n rs x.1 in
    let few = each_all (transition_from l locations timers) _ (λ r. (length r.starts ≤ 64) × (length r.tests ≤ 8))
    (from_few l locations timers) 0 0 rs h in
    let s = sum_most (λ (r : Transition). length r.starts) 64 _ (λ r p. p.0) rs few in
    let g = sum_most (λ (r : Transition). length r.tests) 8 _ (λ r p. p.1) rs few in (
      rw (transitions_length l locations timers 0 0 n rs x.1) at (rw (ap (λ (z : Sizes). z.starts) x.2) at s),
      rw (transitions_length l locations timers 0 0 n rs x.1) at (rw (ap (λ (z : Sizes). z.tests) x.2) at g),
    )
