-- The tests of one transition, one a turn: what is left of them decides. Hard: the code counts places among all tests, the definition those of the
-- transition alone.
use mathlib.Core.Path.{◌≡◌, refl, sym, ap, ap₂, subst, ◌∙◌}
use mathlib.Core.Bool.{Bool, true, false, ◌&&◌}
use mathlib.Core.Option.{none, some, some-injective, none-ne-some}
use mathlib.Core.List.{List, [], ◌∷◌}
use Prim.Native.Nat.{ℕ, zero, suc, ◌+◌, ◌-◌, ◌≤◌, ◌<◌}
use native.Mathlib.Omega.{arith}
use lib.ListN.{length, get_or, drop}
use Rattle.comparison.specs.declared.Comparison.{Comparison}
use Rattle.comparison.specs.Comparison.{met, comparison_of, code_of}
use Rattle.comparison.proofs.Comparisons.{comparison_code}
use Rattle.model.specs.Chart.{Test, Transition, Chart, Nth}
use Rattle.model.specs.Run.{Counts, all_met, enabled}
use Rattle.chart_lists.specs.Lists.{Lists}
use Rattle.chart_lists.specs.Holds.{Holds}
use Rattle.steps.specs.StepLists.{FirstTests}
use Rattle.steps.specs.Counts.{CountsAgree}
use Rattle.steps.proofs.TransitionPlaces.{TestAt, nth_drop, transition_at, test_at_lem}

-- ---- the code of a comparison

pub decoded_known : {x y : Comparison} (code : ℕ) → some y ≡ comparison_of code → code ≡ code_of x → y ≡ x
decoded_known {x} code e h = some-injective _ _ (e ∙ ap comparison_of h ∙ comparison_code x)

pub decoded_unknown : (x : Comparison) (code : ℕ) → none ≡ comparison_of code → code ≡ code_of x → ⊥
decoded_unknown x code e h = none-ne-some _ (e ∙ ap comparison_of h ∙ comparison_code x)

-- ---- the tests of a transition

-- none is done yet
pub none_done : (c : Chart) (r : Transition) (v : Counts) (k : ℕ) → enabled c r v ≡ all_met (drop (k - k) r.tests) v
unfolding enabled
none_done c r v k = let e : 0 ≡ k - k = omega arith in ap (λ (i : ℕ). all_met (drop i r.tests) v) e

module _ {c : Chart} {l : Lists} (h : Holds c l) {firsts : List ℕ} (f : FirstTests c firsts) {i : ℕ} {r : Transition} (n : Nth c i r) where
  abbrev first : ℕ
  first = get_or firsts i 0

  abbrev end : ℕ
  end = get_or firsts i 0 + get_or l.test_counts i 0

  -- what stands at the place k
  pub some_test : (k : ℕ) → first ≤ k → k < end → (t : Test) × TestAt t k l
  some_test k b d =
      let e = nth_drop r.tests (k - first) (omega (arith, (transition_at h n).number)) in
      let p : first + (k - first) ≡ k = omega arith in
      (e.0, subst (λ (q : ℕ). TestAt e.0 q l) p (test_at_lem h n f (k - first) e.0 e.1))

  module _ (counts : List ℕ) (v : Counts) (agree : CountsAgree counts v) where
    -- what the code decides at the place k is the test there
    abbrev Decides : ℕ → Bool → Type 0
    Decides k b = (x : Comparison) → get_or l.codes k 0 ≡ code_of x → b ≡ met x (get_or counts (get_or l.timers k 0) 0) (get_or l.constants k 0)

    turn : (m : ℕ) (b : Bool) → m < length r.tests → Decides (first + m) b
        → all_met (drop m r.tests) v ≡ (b && all_met (drop (suc m) r.tests) v)
    unfolding all_met
    turn m b d decides =
        let e = nth_drop r.tests m d in
        let t = e.0 in
        let a : TestAt t (first + m) l = test_at_lem h n f m t e.1 in
        let same : get_or counts (get_or l.timers (first + m) 0) 0 ≡ v t.timer =
        ap (λ (j : ℕ). get_or counts j 0) a.timer ∙ agree.same t.timer a.below in
        let q : b ≡ met t.comparison (v t.timer) t.constant =
        decides t.comparison a.code ∙ ap₂ (λ (x k : ℕ). met t.comparison x k) same a.constant in
        rw (e.2, q) refl

    -- the tests of which k - first are done: the next one is met, and the rest decide
    pub test_passed : (k : ℕ) → first ≤ k → k < end → Decides k true
        → all_met (drop (k - first) r.tests) v ≡ all_met (drop (k + 1 - first) r.tests) v
    test_passed k b d decides =
        let p : first + (k - first) ≡ k = omega arith in
        let q : k + 1 - first ≡ suc (k - first) = omega arith in
        rw q (turn (k - first) true (omega (arith, (transition_at h n).number)) (subst (λ (x : ℕ). Decides x true) (sym p) decides))

    -- or it is not met
    pub test_failed : (k : ℕ) → first ≤ k → k < end → Decides k false → all_met (drop (k - first) r.tests) v ≡ false
    test_failed k b d decides =
        let p : first + (k - first) ≡ k = omega arith in
        turn (k - first) false (omega (arith, (transition_at h n).number)) (subst (λ (x : ℕ). Decides x false) (sym p) decides)

    -- none is left
    pub tests_done : (k : ℕ) → end ≤ k → all_met (drop (k - first) r.tests) v ≡ true
    unfolding all_met
    tests_done k d = rw (past r.tests (k - first) (omega (arith, (transition_at h n).number))) refl
      where
        past : (ts : List Test) (m : ℕ) → length ts ≤ m → drop m ts ≡ []
        past [] zero b = refl
        past [] (suc m) b = refl
        past (x ∷ ts) zero b = absurd (omega arith)
        past (x ∷ ts) (suc m) b = past ts m (omega arith)
