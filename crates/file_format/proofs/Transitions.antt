-- Tests and transitions are read and written so that each undoes the other, for constants of W bytes. Hard: the length that stands in front of a
-- transition is judged only once its starts and tests are counted.
use mathlib.Core.Path.{◌≡◌, refl, ap}
use mathlib.Core.List.{append-nil}
use Prim.Native.Nat.{ℕ, suc, ◌+◌, ◌*◌, ◌^◌, ◌≤◌, ◌<◌}
use native.Mathlib.Nat.{mul-le-mul}
use native.Mathlib.Omega.{arith}
use lib.Dec.{leb, eqb}
use lib.ListN.{length}
use borrow.Author.Tests.{leb-true, le-leb, eqb-true}
use Rattle.lists.specs.Rising.{Rising, All}
use Rattle.lists.proofs.Bools.{eqb_self}
use Rattle.model.specs.Answer.{nowhere}
use Rattle.model.specs.Chart.{Test, Transition}
use Rattle.model.specs.Valid.{ValidTest, ValidTransition}
use Rattle.file_format.specs.Parse.{write_all}
use Rattle.file_format.specs.Body.{read_test, read_tests, record_length, read_transition, read_transitions, write_test, write_transition}
use Rattle.file_format.proofs.RoundTrip.{RoundTrip, restated, field, field_as_lem, condition, end, items}
use Rattle.file_format.proofs.Fields.{number_trip, below_trip, rising_trip, rising_most, comparison_trip}

module _ (W timers : ℕ) (few_timers : timers ≤ 64) where
  pub test_trip : (i : ℕ) → RoundTrip (ValidTest W timers) (write_test W) (read_test W timers i)
  unfolding read_test write_test
  test_trip i =
      restated (λ t h. record { timer = h.1.0; constant = h.1.1.1.0 }) (λ t v. (tt, (v.timer, (tt, (v.constant, tt))))) (λ t. simp append-nil)
      (field (λ t. Unit {0}) (λ (t : Test). t.timer) _ (below_trip 1 timers 6 i (omega arith))
      (λ timer p. field _ (λ (t : Test). t.comparison) _ (comparison_trip i)
      (λ comparison p. field _ (λ (t : Test). t.constant) _ (number_trip W)
      (λ constant p. end _ (record { timer = timer; comparison = comparison; constant = constant }) (((tt, refl), refl), refl)
      (λ t c j. record { timer = c.0.0.1 j; comparison = c.0.1 j; constant = c.1 j })))))

  pub tests_trip : (i g : ℕ) → RoundTrip (λ ts. (length ts ≡ g) × All (ValidTest W timers) ts) (write_all (write_test W)) (read_tests W timers i g)
  unfolding read_tests
  tests_trip i g =
      items (λ (i : ℕ) (t : Test). i) (λ i. ValidTest W timers) (λ i. All (ValidTest W timers)) (λ i. tt) (λ i t ts p a. (p, a)) (λ i t ts a. a)
      (write_test W) (read_test W timers) test_trip i g

-- what is written in front of a transition
abbrev length_of : (W : ℕ) → Transition → ℕ
length_of W r = record_length W (length r.starts) (length r.tests)

module _ (W locations timers : ℕ) (narrow : W ≤ 8) (few_locations : locations ≤ 256) (few_timers : timers ≤ 64) where
  few_starts : (r : Transition) → ValidTransition W locations timers r → length r.starts ≤ 64
  few_starts r v = rising_most timers 64 r.starts few_timers v.starts

  length_fits : (r : Transition) → ValidTransition W locations timers r → length_of W r < 256 ^ 2
  unfolding record_length
  length_fits r v =
      let h : 2 + W ≤ 10 = omega arith in
      let m : (2 + W) * length r.tests ≤ 10 * 8 = mul-le-mul h v.few_tests in
      omega (arith, few_starts r v)

  pub transition_trip : (i : ℕ) → RoundTrip (ValidTransition W locations timers) (write_transition W) (read_transition W locations timers i)
  unfolding read_transition write_transition
  transition_trip i =
      restated
      (λ r h. record {
        source = h.1.1.0;
        target = h.1.1.1.0;
        event = h.1.1.1.1.0;
        starts = h.1.1.1.1.1.1.0;
        few_tests = leb-true _ _ h.1.1.1.1.1.1.1.1.1.0;
        tests = h.1.1.1.1.1.1.1.1.1.1.0;
      })
      (λ r v. (
        tt,
        (
          length_fits r v,
          (
            v.source,
            (
              v.target,
              (
                v.event,
                (
                  omega (arith, few_starts r v),
                  (
                    v.starts,
                    (omega (arith, v.few_tests), (eqb_self (length_of W r), (le-leb _ _ v.few_tests, (v.tests, tt)))),
                  ),
                ),
              ),
            ),
          ),
        ),
      ))
      (λ r. simp append-nil)
      (field (λ r. Unit {0}) (length_of W) _ (number_trip 2)
      (λ len p₁. field _ (λ (r : Transition). r.source) _ (below_trip 2 locations 5 i (omega arith))
      (λ source p₂. field _ (λ (r : Transition). r.target) _ (below_trip 2 locations 5 i (omega arith))
      (λ target p₃. field _ (λ (r : Transition). r.event) _ (number_trip 1)
      (λ event p₄. field _ (λ (r : Transition). length r.starts) _ (below_trip 1 65 4 i (omega arith))
      (λ s p₅. field_as_lem _ (λ (r : Transition). r.starts) (λ r. Rising timers 0 r.starts) _
      (λ r c p. p.1) (λ r c p. (c.1, p)) (rising_trip 1 timers 6 i s (omega arith))
      (λ starts p₆. field _ (λ (r : Transition). length r.tests) _ (number_trip 1)
      (λ g p₇. condition _ {c = eqb len (record_length W s g)} 3 nowhere (λ r. eqb (length_of W r) (length_of W r)) _ (λ r c. cc)
      (λ q. condition _ 4 i (λ r. leb (length r.tests) 8) _ (λ r c. ap (λ y. leb y 8) c.1)
      (λ q'. field_as_lem _ (λ (r : Transition). r.tests) (λ r. All (ValidTest W timers) r.tests) _
      (λ r c p. p.1) (λ r c p. (c.1, p)) (tests_trip W timers few_timers i g)
      (λ tests p₈. end _ (record { source = source; target = target; event = event; starts = starts; tests = tests })
      ((((((((tt, cc (eqb-true len (record_length W s g) q)), refl), refl), refl), p₆.0), refl), p₈.0), refl)
      (λ r c j. record {
        source = c.0.0.0.0.0.0.1 j;
        target = c.0.0.0.0.0.1 j;
        event = c.0.0.0.0.1 j;
        starts = c.0.0.1 j;
        tests = c.1 j;
      }))))))))))))

  pub transitions_trip : (n : ℕ)
      → RoundTrip (λ rs. (length rs ≡ n) × All (ValidTransition W locations timers) rs)
      (write_all (write_transition W)) (read_transitions W locations timers n)
  unfolding read_transitions
  transitions_trip n =
      items (λ (i : ℕ) (r : Transition). suc i) (λ i. ValidTransition W locations timers) (λ i. All (ValidTransition W locations timers))
      (λ i. tt) (λ i r rs p a. (p, a)) (λ i r rs a. a) (write_transition W) (read_transition W locations timers) transition_trip 0 n
