-- The loop that fills the lists of the tests with one transition's tests, on plain values.
use mathlib.Core.Path.{◌≡◌, sym, ap, ◌∙◌, subst}
use mathlib.Core.List.{List}
use Prim.Native.Nat.{ℕ, ◌+◌, ◌≤◌, ◌<◌}
use native.Mathlib.Omega.{arith}
use lib.ListN.{length, drop, set}
use Rattle.comparison.specs.declared.Comparison.{Comparison}
use Rattle.comparison.specs.Comparison.{code_of}
use Rattle.model.specs.Chart.{Test}
use Rattle.file_format.specs.Parse.{value, refusal}
use Rattle.file_format.specs.Body.{read_test, read_tests}
use Rattle.file_format.proofs.Parsed.{value_refused, same_value}
use Rattle.file_format.proofs.Items.{turn_done, turn_refused}
use Rattle.file_judging.proofs.TestsLoop.{Skipping}
use Rattle.file_judging.proofs.TestsLoop as skipping
use Rattle.filling.specs.Parts.{TestsStored}
use Rattle.filling.proofs.Store.{stored_none, stored_more}

-- of g tests k are read and stored, from the entry base on
pub record TestsFilled (W timers place : ℕ) (s : List ℕ) (at g base here k : ℕ) (a b c a' b' c' : List ℕ) : Type 0 where
  pub read : Skipping W timers place s at g here k
  pub stored : TestsStored read.done base a b c a' b' c'

module _ (W timers place : ℕ) (s : List ℕ) (at g base : ℕ) (a b c : List ℕ)
    (ra : base + g ≤ length a) (rb : base + g ≤ length b) (rc : base + g ≤ length c) where
  pub tests_begin : TestsFilled W timers place s at g base at 0 a b c a b c
  unfolding skipping.tests_begin
  tests_begin = record {
    read = skipping.tests_begin W timers place s at g;
    stored = stored_none base a b c (omega arith) (omega arith) (omega arith);
  }

  module _ {here k : ℕ} {a' b' c' : List ℕ} (f : TestsFilled W timers place s at g base here k a b c a' b' c') where
    pub tests_done : g ≤ k → (ts : List Test) (t : List ℕ) → read_tests W timers place g (drop at s) ≡ value ts t → TestsStored ts base a b c a' b' c'
    tests_done h ts t e =
        subst (λ (x : List Test). TestsStored x base a b c a' b' c') (same_value (sym (turn_done f.read.turn h) ∙ e)) f.stored

    module _ (h : k < g) where
      pub tests_never : {m p : ℕ} → read_test W timers place (drop here s) ≡ refusal m p
          → (ts : List Test) (t : List ℕ) → read_tests W timers place g (drop at s) ≡ value ts t → ⊥
      tests_never r ts t e = value_refused e (turn_refused f.read.turn h r)

      pub tests_again : {j x v : ℕ} {y : Comparison} {next : ℕ}
          → read_test W timers place (drop here s) ≡ value (record { timer = j; comparison = y; constant = v }) (drop next s) → x ≡ code_of y
          → TestsFilled W timers place s at g base next (k + 1) a b c (set a' (base + k) j) (set b' (base + k) x) (set c' (base + k) v)
      unfolding skipping.tests_again
      tests_again {j} {x} {v} {y} e q =
          let n : base + length f.read.done ≡ base + k = ap (λ (m : ℕ). base + m) f.read.turn.count in
          let t : Test = record { timer = j; comparison = y; constant = v } in
          rw q (record {
            read = skipping.tests_again f.read h e;
            stored = stored_more base a b c (omega arith) (omega arith) (omega arith) f.stored t n (omega arith) (omega arith) (omega arith);
          })
