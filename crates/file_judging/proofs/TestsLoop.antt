-- The loop that skips a transition's tests.
use mathlib.Core.Path.{◌≡◌}
use mathlib.Core.List.{List, [], ◌∷◌, ◌++◌}
use Prim.Native.Nat.{ℕ, ◌+◌, ◌≤◌, ◌<◌}
use native.Mathlib.Omega.{arith}
use lib.ListN.{length, drop}
use Rattle.model.specs.Chart.{Test}
use Rattle.file_format.specs.Parse.{value, refusal}
use Rattle.file_format.specs.Body.{read_test, read_tests}
use Rattle.file_format.proofs.Items.{Turn, tests_first, turn_done, turn_refused, turn_again}
use Rattle.file_judging.specs.Parts.{skip_tests}

-- Of g tests k are read.
pub record Skipping (W timers place : ℕ) (s : List ℕ) (at g here k : ℕ) : Type 0 where
  pub done : List Test
  pub turn : Turn (λ (i : ℕ) (t : Test). i) (read_test W timers) (read_tests W timers place g (drop at s)) g k done place (drop here s)

unfoldable pub tests_begin : (W timers place : ℕ) (s : List ℕ) (at g : ℕ) → Skipping W timers place s at g at 0
tests_begin W timers place s at g = record { done = []; turn = tests_first W timers place g (drop at s) }

module _ {W timers place : ℕ} {s : List ℕ} {at g here k : ℕ} (h : Skipping W timers place s at g here k) where
  pub tests_done : g ≤ k → value g (drop here s) ≡ skip_tests W timers place g (drop at s)
  unfolding skip_tests
  tests_done l =
      let e : length h.done ≡ g = omega (arith, h.turn.count, h.turn.most) in
      rw (turn_done h.turn l, e)

  module _ (l : k < g) where
    pub tests_refused : {m q : ℕ} → read_test W timers place (drop here s) ≡ refusal m q → refusal m q ≡ skip_tests W timers place g (drop at s)
    unfolding skip_tests
    tests_refused e = rw (turn_refused h.turn l e)

    unfoldable pub tests_again : {t : Test} {next : ℕ} → read_test W timers place (drop here s) ≡ value t (drop next s)
        → Skipping W timers place s at g next (k + 1)
    tests_again {t} e = record { done = h.done ++ (t ∷ []); turn = turn_again h.turn l e }
