-- The sets of the timers that transitions test, made one timer and one transition after another; and the first transition that tests a timer of its
-- source's set.
use mathlib.Core.Path.{◌≡◌, refl, sym, ap, ◌∙◌}
use mathlib.Core.Bool.{Bool, true, false, not}
use mathlib.Core.List.{List, [], ◌∷◌, ◌++◌, map, map-append, append_assoc, foldl-append}
use Prim.Native.Nat.{ℕ, zero, suc, ◌+◌, ◌-◌, ◌≤◌, ◌<◌}
use native.Mathlib.Numerals.{add-one}
use native.Mathlib.Omega.{arith}
use lib.Dec.{eqb}
use lib.ListN.{length, get_or, take, drop, set, length-take, length-map}
use lib.Seq.{length-take-le, take-suc, take_at, drop_at, drop-drop, get_or-drop, get_or-take}
use Rattle.timer_set.specs.Members.{added, common, set_of}
use Rattle.lists.specs.Lists.{lowest, first_of, sum_of}
use Rattle.model.specs.Chart.{Test, Transition}
use Rattle.model.specs.Live.{tests_set, is_empty}
use Rattle.chart_lists.specs.Lists.{all_tests, put, sources_of, test_counts_of, timers_of}
use Rattle.chart_lists.proofs.Put.{put_last}
use Rattle.judgement.specs.Tested.{sets_in, tests_at}

-- ---- one transition's tests

pub set_more : (ts : List ℕ) (k : ℕ) → k < length ts → added (set_of (take k ts)) (get_or ts k 0) ≡ set_of (take (k + 1) ts)
unfolding set_of
set_more ts k h = rw (add-one k, take-suc ts k 0, foldl-append)

module _ (ts : List ℕ) (base n : ℕ) where
  -- the timers between two places, by how many they are
  pub between : take ((base + n) - base) (drop base ts) ≡ take n (drop base ts)
  between = let e : (base + n) - base ≡ n = omega arith in rw e

  pub between_small : {top : ℕ} → ((i : ℕ) → i < top → get_or ts i 0 < 64) → base + n ≤ top
      → (i : ℕ) → i < length (take ((base + n) - base) (drop base ts)) → get_or (take ((base + n) - base) (drop base ts)) i 0 < 64
  between_small small room i h =
      let k : i < n = omega (arith, simp (between, length-take) at h) in
      rw (between, get_or-take, get_or-drop) (small (base + i) (omega arith))

-- ---- one transition after another

pub length_sets : (ns ts : List ℕ) → length (sets_in ns ts) ≡ length ns
unfolding sets_in
length_sets [] ts = refl
length_sets (n ∷ ns) ts = ap suc (length_sets ns (drop n ts))

sum_last : (ns : List ℕ) (n : ℕ) → sum_of (ns ++ (n ∷ [])) ≡ sum_of ns + n
unfolding sum_of
sum_last [] n = omega arith
sum_last (m ∷ ns) n = rw (sum_last ns n) (omega arith)

sets_last : (ns : List ℕ) (n : ℕ) (ts : List ℕ) → sets_in (ns ++ (n ∷ [])) ts ≡ sets_in ns ts ++ (set_of (take n (drop (sum_of ns) ts)) ∷ [])
unfolding sets_in sum_of
sets_last [] n ts = refl
sets_last (m ∷ ns) n ts = rw (sets_last ns n (drop m ts), drop-drop (sum_of ns) m ts)

sum_take : (ns : List ℕ) (i : ℕ) → sum_of (take i ns) ≤ sum_of ns
unfolding sum_of
sum_take ns zero = omega arith
sum_take [] (suc i) = omega arith
sum_take (n ∷ ns) (suc i) = omega (arith, sum_take ns i)

module _ (ns ts : List ℕ) (i : ℕ) (h : i < length ns) where
  pub sum_more : {base : ℕ} → base ≡ sum_of (take i ns) → base + get_or ns i 0 ≡ sum_of (take (i + 1) ns)
  sum_more e = rw (e, add-one i, take-suc ns i 0 h) (sym (sum_last (take i ns) (get_or ns i 0)))

  -- so many timers are there
  pub sum_room : sum_of (take i ns) + get_or ns i 0 ≤ sum_of ns
  sum_room = rw (sum_more refl) (sum_take ns (i + 1))

  -- the next transition's set is stored behind the others
  pub sets_more : (l : List ℕ) {out : List ℕ} {base w : ℕ} → length ns ≤ length l → base ≡ sum_of (take i ns) → out ≡ put (sets_in (take i ns) ts) l
      → w ≡ set_of (take (get_or ns i 0) (drop base ts)) → set out i w ≡ put (sets_in (take (i + 1) ns) ts) l
  sets_more l room b o v =
      let e : length (sets_in (take i ns) ts) ≡ i = length_sets (take i ns) ts ∙ length-take-le i ns (omega arith) in
      rw (v, b, add-one i, take-suc ns i 0 h, sets_last (take i ns) (get_or ns i 0) ts) (put_last (sets_in (take i ns) ts) l _ (omega arith) e o)

-- of transitions' tests they are the sets of the timers that each tests
pub sets_are : (rs : List Transition) (beyond : List ℕ)
    → sets_in (test_counts_of rs) (timers_of (all_tests rs) ++ beyond) ≡ map tests_set rs
unfolding sets_in all_tests tests_set
sets_are [] beyond = refl
sets_are (r ∷ rs) beyond =
    let e : length (timers_of r.tests) ≡ length r.tests = length-map r.tests (λ (t : Test). t.timer) in
    rw (map-append, append_assoc, take_at _ _ _ e, drop_at _ _ _ e, sets_are rs beyond)

-- ---- the first transition that tests a timer of its source's set

-- the transition tests a timer of its source's set
abbrev tests_in : List ℕ → Transition → Bool
tests_in sets r = not (is_empty (common (tests_set r) (get_or sets r.source 0)))

pub first_testing_is : (sets : List ℕ) (rs : List Transition)
    → lowest (tests_at (sources_of rs) (map tests_set rs) sets) (length rs) ≡ first_of (tests_in sets) rs
unfolding lowest first_of
first_testing_is sets [] = refl
first_testing_is sets (r ∷ rs) = ap (λ (k : ℕ). elim (tests_in sets r) as (λ _. ℕ) [ true ↦ 0 | false ↦ suc k ]) (first_testing_is sets rs)

-- what the code's test says of it
pub test_says : (a b : ℕ) {w : ℕ} {r : Bool} → w ≡ common a b → r ≡ eqb w 0 → not (is_empty (common a b)) ≡ not r
unfolding is_empty
test_says a b e f = rw (f, e)
