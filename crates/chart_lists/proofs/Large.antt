-- Whether one of the first entries of the list of constants is over 65,535, by its entries, and that this is whether some transition has such a
-- constant. What is hard is that the constants stand in one list, the tests of all transitions one after another.
use mathlib.Core.Path.{◌≡◌, refl, sym, ap, ◌∙◌}
use mathlib.Core.Bool.{Bool, true, false, ◌||◌, or_assoc}
use mathlib.Core.List.{List, [], ◌∷◌, ◌++◌}
use Prim.Native.Nat.{ℕ, zero, suc, ◌≤◌, ◌<◌}
use native.Mathlib.Omega.{arith}
use lib.ListN.{length, get_or, take}
use borrow.Author.Tests.{lt-ltb, le-ltb}
use Rattle.lists.specs.Lists.{any_of}
use Rattle.lists.proofs.Library.{any_of_list_any}
use Rattle.lists.proofs.Bools.{or_left, or_right}
use Rattle.model.specs.Chart.{Test, Transition}
use Rattle.model.specs.Version.{most_in_two_bytes, is_large, large_test, large_transition}
use Rattle.chart_lists.specs.Lists.{all_tests, constants_of}
use Rattle.chart_lists.specs.Begins.{Begins}
use Rattle.chart_lists.specs.Large.{large_among}
use Rattle.chart_lists.proofs.Begins.{begins_take}

-- ---- by entries

any_at : (l : List ℕ) (n k : ℕ) → k < n → n ≤ length l → most_in_two_bytes < get_or l k 0 → any_of is_large (take n l) ≡ true
unfolding any_of is_large
any_at l zero k h m o = absurd (omega arith)
any_at [] (suc n) k h m o = absurd (omega arith)
any_at (x ∷ l) (suc n) zero h m o = or_left (any_of is_large (take n l)) (lt-ltb most_in_two_bytes x o)
any_at (x ∷ l) (suc n) (suc k) h m o = or_right (is_large x) (any_at l n k (omega arith) (omega arith) o)

pub large_at : (l : List ℕ) (n k : ℕ) → k < n → n ≤ length l → most_in_two_bytes < get_or l k 0 → large_among n l ≡ true
large_at l n k h m o = sym (any_of_list_any is_large (take n l)) ∙ any_at l n k h m o

any_none : (l : List ℕ) (n : ℕ) → ((k : ℕ) → k < n → get_or l k 0 ≤ most_in_two_bytes) → any_of is_large (take n l) ≡ false
unfolding any_of is_large
any_none l zero h = refl
any_none [] (suc n) h = refl
any_none (x ∷ l) (suc n) h = rw (le-ltb most_in_two_bytes x (h 0 (omega arith))) (any_none l n (λ k b. h (suc k) (omega arith)))

pub large_none : (l : List ℕ) (n : ℕ) → ((k : ℕ) → k < n → get_or l k 0 ≤ most_in_two_bytes) → large_among n l ≡ false
large_none l n h = sym (any_of_list_any is_large (take n l)) ∙ any_none l n h

-- ---- by transitions

module _ {A : Type 0} (f : A → Bool) where
  any_append : (xs ys : List A) → any_of f (xs ++ ys) ≡ (any_of f xs || any_of f ys)
  unfolding any_of
  any_append [] ys = refl
  any_append (x ∷ xs) ys = rw (any_append xs ys) (sym (or_assoc (f x) (any_of f xs) (any_of f ys)))

-- those of the transitions are those of all their tests
large_tests : (ts : List Test) → any_of large_test ts ≡ any_of is_large (constants_of ts)
unfolding any_of
large_tests [] = refl
large_tests (t ∷ ts) = rw (large_tests ts)

large_all : (rs : List Transition) → any_of large_transition rs ≡ any_of large_test (all_tests rs)
unfolding any_of all_tests
large_all [] = refl
large_all (r ∷ rs) = rw (large_all rs) (sym (any_append large_test r.tests (all_tests rs)))

-- the constants of transitions are the first entries of their list, as many as there are tests
pub large_among_lem : (rs : List Transition) {l : List ℕ} {n : ℕ} → Begins (constants_of (all_tests rs)) l → n ≡ length (constants_of (all_tests rs))
    → any_of large_transition rs ≡ large_among n l
large_among_lem rs b e = large_all rs ∙ large_tests (all_tests rs) ∙ ap (any_of is_large) (sym (begins_take b e)) ∙ any_of_list_any is_large _
