-- Counts that stop rising at 65,536 meet the same tests with constants up to 65,535. All by arithmetic.
use mathlib.Core.Path.{◌≡◌, refl, sym, ap, ◌∙◌}
use mathlib.Core.Logic.{◌⊎◌, inl, inr, ◌↔◌}
use mathlib.Core.Bool.{true, false}
use mathlib.Core.List.{List, [], ◌∷◌}
use Prim.Native.Nat.{ℕ, ◌≤◌, ◌<◌, ◌^◌, min}
use native.Mathlib.Omega.{arith}
use Rattle.comparison.specs.declared.Comparison.{Comparison}
use Rattle.comparison.specs.declared.Comparison.TheVariants.{AtMost, Below, AtLeast, Above, Equal}
use Rattle.comparison.specs.Comparison.{Met, met}
use Rattle.comparison.proofs.Comparisons.{met_iff}
use Rattle.lists.specs.Lists.{memb}
use Rattle.lists.specs.Rising.{All}
use Rattle.lists.proofs.Bools.{yes_or_no, same_bool}
use Rattle.model.specs.Chart.{Test, Transition, Chart, Nth}
use Rattle.model.specs.Version.{most_in_two_bytes, large_constant}
use Rattle.model.specs.Run.{Counts, grown, restarted, all_met, enabled}
use Rattle.model.proofs.Transitions.{all_nth}
use Rattle.model.proofs.Versions.{small_constants}
use Rattle.model.proofs.Agree.{restarted_yes, restarted_no}
use Rattle.counter_model.specs.Counter.{most_count, risen}

-- ---- one test

stopped_iff : (x : Comparison) (n k : ℕ) → k ≤ most_in_two_bytes → Met x (min n most_count) k ↔ Met x n k
stopped_iff AtMost n k small = omega arith
stopped_iff Below n k small = omega arith
stopped_iff AtLeast n k small = omega arith
stopped_iff Above n k small = omega arith
stopped_iff Equal n k small = omega arith

pub met_stopped : (x : Comparison) (n k : ℕ) → k ≤ most_in_two_bytes → met x (min n most_count) k ≡ met x n k
met_stopped x n k small =
    let iff = stopped_iff x n k small in
    same_bool _ _ (λ e. (met_iff x n k).1 (iff.0 ((met_iff x (min n most_count) k).0 e)))
    (λ e. (met_iff x (min n most_count) k).1 (iff.1 ((met_iff x n k).0 e)))

-- ---- all counts

-- the counts of all timers are the same up to 65,536
pub record UpToMost (v w : Counts) : Type 0 where
  pub same : (j : ℕ) → min (v j) most_count ≡ min (w j) most_count

module _ {v w : Counts} (u : UpToMost v w) where
  -- after a wait, counts that stop and counts that do not
  pub same_risen : (d : ℕ) → UpToMost (risen d v) (grown d w)
  unfolding risen grown
  same_risen d = record { same = λ j. omega (arith, u.same j) }

  pub same_restarted : (l : List ℕ) → UpToMost (restarted l v) (restarted l w)
  same_restarted l = record { same = λ j. go j (yes_or_no (memb j l)) }
    where
      go : (j : ℕ) → (memb j l ≡ true) ⊎ (memb j l ≡ false) → min (restarted l v j) most_count ≡ min (restarted l w j) most_count
      go j (inl m) = rw (restarted_yes j l v m, restarted_yes j l w m) refl
      go j (inr f) = rw (restarted_no j l v f, restarted_no j l w f) (u.same j)

  met_alike : (ts : List Test) → All (λ t. t.constant < 256 ^ 2) ts → all_met ts v ≡ all_met ts w
  unfolding all_met
  met_alike [] small = refl
  met_alike (t ∷ ts) small = rw (one, met_alike ts small.1) refl
    where
      fits : t.constant ≤ most_in_two_bytes
      fits = omega (arith, small.0)

      one : met t.comparison (v t.timer) t.constant ≡ met t.comparison (w t.timer) t.constant
      one =
          sym (met_stopped t.comparison (v t.timer) t.constant fits)
          ∙ ap (λ (n : ℕ). met t.comparison n t.constant) (u.same t.timer)
          ∙ met_stopped t.comparison (w t.timer) t.constant fits

  -- they enable the same transitions of a chart that has no larger constants
  pub same_enabled : (c : Chart) → large_constant c ≡ false → {i : ℕ} {r : Transition} → Nth c i r → enabled c r v ≡ enabled c r w
  unfolding enabled
  same_enabled c small {i} {r} n =
      met_alike r.tests
      (all_nth (λ (q : Transition). All (λ t. t.constant < 256 ^ 2) q.tests) c.transitions i (small_constants c small) n.there)
