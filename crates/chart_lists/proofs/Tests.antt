-- The tests of a list of transitions, one transition's after another's.
use mathlib.Core.Path.{◌≡◌, refl}
use mathlib.Core.List.{List, [], ◌∷◌, ◌++◌, map-append, append_assoc, append-nil}
use Prim.Native.Nat.{ℕ, zero, suc, ◌*◌, ◌≤◌, ◌<◌}
use native.Mathlib.Omega.{arith}
use lib.ListN.{length, get_or, length-append}
use Rattle.lists.specs.Lists.{sum_of}
use Rattle.lists.specs.Rising.{All}
use Rattle.model.specs.Chart.{Test, Transition, Chart}
use Rattle.model.specs.Valid.{Valid, ValidTest, ValidTransition}
use Rattle.chart_lists.specs.Limits.{most_tests}
use Rattle.chart_lists.specs.Lists.{all_tests, timers_of, test_counts_of, lists_of}

pub tests_append : (rs ss : List Transition) → all_tests (rs ++ ss) ≡ all_tests rs ++ all_tests ss
unfolding all_tests
tests_append [] ss = refl
tests_append (r ∷ rs) ss = rw (append_assoc, tests_append rs ss)

pub tests_more : (rs : List Transition) (r : Transition) → all_tests (rs ++ (r ∷ [])) ≡ all_tests rs ++ r.tests
unfolding all_tests
tests_more rs r = rw (tests_append, append-nil)

-- a front of the transitions has no more tests than all
pub tests_front : (rs ss : List Transition) {all : List Transition} → rs ++ ss ≡ all → length (all_tests rs) ≤ length (all_tests all)
tests_front rs ss e = rw (← e, tests_append, length-append) (omega arith)

-- as many as the transitions have together
pub tests_sum : (rs : List Transition) → length (all_tests rs) ≡ sum_of (test_counts_of rs)
unfolding all_tests sum_of
tests_sum [] = refl
tests_sum (r ∷ rs) = rw (length-append, tests_sum rs)

-- at most 8 tests of each transition
few_tests : (W locations timers : ℕ) (rs : List Transition) → All (ValidTransition W locations timers) rs → length (all_tests rs) ≤ 8 * length rs
unfolding all_tests
few_tests W locations timers [] h = omega arith
few_tests W locations timers (r ∷ rs) h = rw length-append (omega (arith, h.0.few_tests, few_tests W locations timers rs h.1))

pub all_tests_lem : {W : ℕ} {c : Chart} → Valid W c → length (all_tests c.transitions) ≤ most_tests
all_tests_lem {W} {c} valid =
    omega (arith, few_tests W c.locations c.timers c.transitions valid.transitions, valid.few_transitions)

-- ---- each timer of a valid chart's tests is one of 64

-- every number of the list is below 64
abbrev Small : List ℕ → Type 0
Small l = (i : ℕ) → get_or l i 0 < 64

small_append : (xs ys : List ℕ) → Small xs → Small ys → Small (xs ++ ys)
small_append [] ys f g i = g i
small_append (x ∷ xs) ys f g zero = f 0
small_append (x ∷ xs) ys f g (suc i) = small_append xs ys (λ k. f (suc k)) g i

module _ (W locations timers : ℕ) (few : timers ≤ 64) where
  tests_small : (ts : List Test) → All (ValidTest W timers) ts → Small (timers_of ts)
  tests_small [] v i = omega arith
  tests_small (t ∷ ts) v zero = omega (arith, v.0.timer)
  tests_small (t ∷ ts) v (suc i) = tests_small ts v.1 i

  all_small : (rs : List Transition) → All (ValidTransition W locations timers) rs → Small (timers_of (all_tests rs))
  unfolding all_tests
  all_small [] v i = omega arith
  all_small (r ∷ rs) v i =
      rw map-append
      (small_append (timers_of r.tests) _ (tests_small r.tests v.0.tests) (all_small rs v.1) i)

pub timers_below : {W : ℕ} {c : Chart} → Valid W c → (i : ℕ) → get_or (lists_of c).timers i 0 < 64
unfolding lists_of
timers_below {W} {c} valid i = all_small W c.locations c.timers valid.few_timers c.transitions valid.transitions i
