-- The yes or no of a comparison is its meaning, codes and comparisons correspond, and the table of all cells is right. Each law is shown case by
-- case.
use mathlib.Core.Path.{◌≡◌, refl, sym, ◌∙◌}
use mathlib.Core.Logic.{◌↔◌}
use mathlib.Core.Bool.{true, false}
use mathlib.Core.Option.{none, some}
use mathlib.Core.List.{[]}
use Prim.Native.Nat.{ℕ, zero, suc, ◌≤◌, ◌<◌}
use native.Mathlib.Omega.{arith}
use borrow.Author.Tests.{ltb-true, leb-true, eqb-true, lt-ltb, le-ltb, le-leb, lt-leb, eq-eqb, ne_eqb}
use lib.ListN.{get_or}
use Rattle.comparison.specs.declared.Comparison.{Comparison}
use Rattle.comparison.specs.declared.Comparison.TheVariants.{AtMost, Below, AtLeast, Above, Equal}
use Rattle.comparison.specs.Comparison.{Met, met, comparison_of, code_of}
use Rattle.comparison.specs.Order.{Order, below, at, above, table}

pub met_iff : (x : Comparison) (n k : ℕ) → (met x n k ≡ true) ↔ Met x n k
unfolding met
met_iff AtMost n k = (leb-true n k, le-leb n k)
met_iff Below n k = (ltb-true n k, lt-ltb n k)
met_iff AtLeast n k = (leb-true k n, le-leb k n)
met_iff Above n k = (ltb-true k n, lt-ltb k n)
met_iff Equal n k = (eqb-true n k, eq-eqb n k)

-- ---- codes

pub comparison_code : (x : Comparison) → comparison_of (code_of x) ≡ some x
unfolding comparison_of code_of
comparison_code AtMost = refl
comparison_code Below = refl
comparison_code AtLeast = refl
comparison_code Above = refl
comparison_code Equal = refl

pub code_below : (x : Comparison) → code_of x < 5
unfolding code_of
code_below AtMost = omega arith
code_below Below = omega arith
code_below AtLeast = omega arith
code_below Above = omega arith
code_below Equal = omega arith

-- a code that has a comparison is the code of it
pub code_comparison : (n : ℕ) (x : Comparison) → comparison_of n ≡ some x → n ≡ code_of x
unfolding comparison_of code_of
code_comparison zero x e = cc
code_comparison (suc zero) x e = cc
code_comparison (suc (suc zero)) x e = cc
code_comparison (suc (suc (suc zero))) x e = cc
code_comparison (suc (suc (suc (suc zero)))) x e = cc
code_comparison (suc (suc (suc (suc (suc n))))) x e = cc

-- a code from 5 on has none
pub comparison_past : (n : ℕ) → 5 ≤ n → comparison_of n ≡ none
unfolding comparison_of
comparison_past zero h = absurd (omega arith)
comparison_past (suc zero) h = absurd (omega arith)
comparison_past (suc (suc zero)) h = absurd (omega arith)
comparison_past (suc (suc (suc zero))) h = absurd (omega arith)
comparison_past (suc (suc (suc (suc zero)))) h = absurd (omega arith)
comparison_past (suc (suc (suc (suc (suc n))))) h = refl

-- ---- the table

pub order_at : {n k : ℕ} → n ≤ k → k ≤ n → Order n k 1
order_at {n} {k} h l = let e : n ≡ k = omega arith in at e

pub order_below : {n k o : ℕ} → Order n k o → o < 3
order_below (below h) = omega arith
order_below (at h) = omega arith
order_below (above h) = omega arith

-- every cell
pub table_met : (x : Comparison) {n k o : ℕ} → Order n k o → get_or (get_or table (code_of x) []) o false ≡ met x n k
unfolding met code_of
table_met AtMost {n} {k} (below h) = sym (le-leb n k (omega arith))
table_met AtMost {n} {k} (at h) = sym (le-leb n k (omega arith))
table_met AtMost {n} {k} (above h) = sym (lt-leb n k h)
table_met Below {n} {k} (below h) = sym (lt-ltb n k h)
table_met Below {n} {k} (at h) = sym (le-ltb n k (omega arith))
table_met Below {n} {k} (above h) = sym (le-ltb n k (omega arith))
table_met AtLeast {n} {k} (below h) = sym (lt-leb k n h)
table_met AtLeast {n} {k} (at h) = sym (le-leb k n (omega arith))
table_met AtLeast {n} {k} (above h) = sym (le-leb k n (omega arith))
table_met Above {n} {k} (below h) = sym (le-ltb k n (omega arith))
table_met Above {n} {k} (at h) = sym (le-ltb k n (omega arith))
table_met Above {n} {k} (above h) = sym (lt-ltb k n h)
table_met Equal {n} {k} (below h) = sym (ne_eqb n k (λ e. omega arith))
table_met Equal {n} {k} (at h) = sym (eq-eqb n k h)
table_met Equal {n} {k} (above h) = sym (ne_eqb n k (λ e. omega arith))

-- the cell says yes exactly where the comparison holds
pub table_holds : (x : Comparison) {n k o : ℕ} → Order n k o → (get_or (get_or table (code_of x) []) o false ≡ true) ↔ Met x n k
table_holds x {n} {k} w = (λ e. (met_iff x n k).0 (sym (table_met x w) ∙ e), λ m. table_met x w ∙ (met_iff x n k).1 m)
