-- The places where the tests of the transitions begin, found by adding up the numbers of tests, one transition a turn. A sum over a front grows by
-- the next number.
use mathlib.Core.Path.{◌≡◌, refl, ap, ◌∙◌}
use mathlib.Core.List.{List, [], ◌∷◌}
use Prim.Native.Nat.{ℕ, zero, suc, ◌+◌, ◌≤◌, ◌<◌}
use native.Mathlib.Numerals.{add-one}
use native.Mathlib.Omega.{arith}
use lib.ListN.{length, get_or, set, take, drop, length-append, take-append-drop}
use lib.Seq.{take_all, get_or-set_same, get_or-set_other}
use borrow.Author.Count.{below_more}
use Rattle.model.specs.Chart.{Transition, Chart}
use Rattle.chart_lists.specs.Lists.{Lists, all_tests, lists_of, test_counts_of}
use Rattle.chart_lists.specs.Holds.{Holds}
use Rattle.chart_lists.proofs.Tests.{all_tests_lem, tests_front}
use Rattle.chart_lists.proofs.Begins.{begins_get_d, begins_room}
use Rattle.chart_lists.proofs.Holds.{test_counts_each}
use Rattle.steps.specs.StepLists.{FirstTests}

-- one transition more
tests_next : (rs : List Transition) (i : ℕ) → i < length rs
    → length (all_tests (take (suc i) rs)) ≡ length (all_tests (take i rs)) + get_or (test_counts_of rs) i 0
unfolding all_tests
tests_next [] i h = absurd (omega arith)
tests_next (r ∷ rs) zero h = rw length-append (omega arith)
tests_next (r ∷ rs) (suc i) h = rw (length-append, length-append) (omega (arith, tests_next rs i (omega arith)))

-- the places of the transitions before i are found, and sum is the next one
pub record FoundTo (c : Chart) (i sum : ℕ) (firsts : List ℕ) : Type 0 where
  pub next : sum ≡ length (all_tests (take i c.transitions))
  pub found : (k : ℕ) → k < i → get_or firsts k 0 ≡ length (all_tests (take k c.transitions))

pub found_none : (c : Chart) (firsts : List ℕ) → FoundTo c 0 0 firsts
unfolding all_tests
found_none c firsts = record { next = refl; found = λ k h. absurd (omega arith) }

module _ {c : Chart} {l : Lists} (h : Holds c l) {i sum : ℕ} {firsts : List ℕ} (f : FoundTo c i sum firsts) where
  pub counts_room : length c.transitions ≤ length l.test_counts
  counts_room = omega (arith, begins_room h.test_counts, test_counts_each c)

  module _ (b : i < length c.transitions) where
    sum_next : sum + get_or l.test_counts i 0 ≡ length (all_tests (take (i + 1) c.transitions))
    unfolding lists_of
    sum_next =
        rw add-one (omega (arith, f.next, begins_get_d h.test_counts i 0 (omega (arith, test_counts_each c)), tests_next c.transitions i b))

    -- no sum passes 4,096
    pub sum_fits : sum + get_or l.test_counts i 0 ≤ 4096
    sum_fits =
        let t = c.transitions in
        omega (arith, sum_next, tests_front (take (i + 1) t) (drop (i + 1) t) (take-append-drop (i + 1) t), all_tests_lem h.valid)

    pub found_more : i < length firsts → FoundTo c (i + 1) (sum + get_or l.test_counts i 0) (set firsts i sum)
    found_more r = record {
      next = sum_next;
      found = below_more (λ (k : ℕ). get_or (set firsts i sum) k 0 ≡ length (all_tests (take k c.transitions))) i
          (λ k d. get_or-set_other firsts i k sum 0 (λ p. omega arith) ∙ f.found k d) (get_or-set_same firsts i sum 0 r ∙ f.next);
    }

pub found_all : {c : Chart} {i n sum : ℕ} {firsts : List ℕ} → FoundTo c i sum firsts → n ≡ length c.transitions → n ≤ i → n ≤ length firsts
    → FirstTests c firsts
found_all f e h r = record { room = omega arith; place = λ k b. f.found k (omega arith) }

-- and the next place is behind all tests
pub found_number : {c : Chart} {i n sum : ℕ} {firsts : List ℕ} → FoundTo c i sum firsts → n ≡ length c.transitions → n ≤ i
    → sum ≡ length (all_tests c.transitions)
found_number {c} {i} f e h = f.next ∙ ap (λ (rs : List Transition). length (all_tests rs)) (take_all i c.transitions (omega arith))

-- the tests of a transition end among all tests
pub end_fits : {c : Chart} {l : Lists} → Holds c l → {firsts : List ℕ} → FirstTests c firsts → {i : ℕ} → i < length c.transitions
    → get_or firsts i 0 + get_or l.test_counts i 0 ≤ 4096
end_fits h f {i} b = sum_fits h (record { next = f.place i b; found = λ k d. f.place k (omega arith) }) b
