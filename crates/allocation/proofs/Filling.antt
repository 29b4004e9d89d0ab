-- Lists of rows that a loop writes from the front, one entry of a row a turn: one law for cells and for words of held numbers.
use mathlib.Core.Path.{◌≡◌, refl, sym, ap, ◌∙◌}
use mathlib.Core.Logic.{◌⊎◌, inl, inr, ◌≢◌}
use mathlib.Core.Bool.{Bool, true, false, ◌&&◌}
use mathlib.Core.List.{List}
use Prim.Native.Nat.{ℕ, ◌+◌, ◌≤◌, ◌<◌}
use native.Mathlib.Decide.{ℕ_discrete}
use native.Mathlib.Omega.{arith}
use lib.Dec.{eqb}
use lib.ListN.{length, get_or, set}
use lib.Seq.{get_or-set_same, get_or-set_other}
use borrow.Author.Tests.{ne_eqb}
use Rattle.lists.proofs.Bools.{is_no, eqb_self, lt_or_le}
use Rattle.allocation.specs.Rows.{in_family, changed, Within}
use Rattle.chart_lists.specs.Limits.{most_locations}

-- ---- one column of the rows of a family's locations

module _ (place : ℕ → ℕ → ℕ) (sets : List ℕ) (j column : ℕ) (value : ℕ → ℕ) (before : List ℕ) (s : ℕ) where
  pub changed_no : in_family sets j s ≡ false → (i : ℕ) → changed place sets j column value before s i ≡ get_or before (place s i) 0
  unfolding changed
  changed_no e i = go (eqb column i)
    where
      go : (b : Bool)
          → elim (b && in_family sets j s) [ true ↦ value (get_or before (place s i) 0) | false ↦ get_or before (place s i) 0 ] ≡ get_or before
          (place s i) 0
      go true = rw e refl
      go false = refl

  pub changed_other : (i : ℕ) → (column ≡ i → ⊥) → changed place sets j column value before s i ≡ get_or before (place s i) 0
  unfolding changed
  changed_other i n = rw (ne_eqb column i n, changed) refl

  pub changed_here : in_family sets j s ≡ true → changed place sets j column value before s column ≡ value (get_or before (place s column) 0)
  unfolding changed
  changed_here e = rw (eqb_self column, e, changed) refl

-- the rows below s are done, and the others are as they were
pub record Rows (place : ℕ → ℕ → ℕ) (columns : ℕ) (sets : List ℕ) (j column : ℕ) (value : ℕ → ℕ) (before : List ℕ) (s : ℕ)
    (now : List ℕ) : Type 0 where
  pub done : (q i : ℕ) → q < s → i < columns → get_or now (place q i) 0 ≡ changed place sets j column value before q i
  pub left : (q i : ℕ) → s ≤ q → q < most_locations → i < columns → get_or now (place q i) 0 ≡ get_or before (place q i) 0

module _ {place : ℕ → ℕ → ℕ} {columns : ℕ} {sets : List ℕ} {j column : ℕ} {value : ℕ → ℕ} {before : List ℕ} where
  module _ {from end : ℕ} (w : Within sets j from end) where
    pub rows_none : Rows place columns sets j column value before from before
    rows_none = record {
      done = λ q i h k. sym (changed_no place sets j column value before q (is_no _ (λ t. omega (arith, w.low q t))) i);
      left = λ q i h b k. refl;
    }

    pub rows_all : {l : List ℕ} → Rows place columns sets j column value before end l → (q i : ℕ) → q < most_locations → i < columns
        → get_or l (place q i) 0 ≡ changed place sets j column value before q i
    rows_all {l} r q i b k = go (lt_or_le q end)
      where
        go : (q < end) ⊎ (end ≤ q) → get_or l (place q i) 0 ≡ changed place sets j column value before q i
        go (inl h) = r.done q i h k
        go (inr h) = r.left q i h b k ∙ sym (changed_no place sets j column value before q (is_no _ (λ t. omega (arith, w.high q t))) i)

  module _ {s : ℕ} (few : s < most_locations) {l : List ℕ} (r : Rows place columns sets j column value before s l) where
    -- a row more, if its entries are done and the others are kept
    rows_more : (m : List ℕ) → ((i : ℕ) → i < columns → get_or m (place s i) 0 ≡ changed place sets j column value before s i)
        → ((q i : ℕ) → q ≢ s → q < most_locations → i < columns → get_or m (place q i) 0 ≡ get_or l (place q i) 0)
        → Rows place columns sets j column value before (s + 1) m
    rows_more m row other = record {
      done = λ q i h k. go q i k (omega arith) (ℕ_discrete q s) (λ n. r.done q i (omega arith) k);
      left = λ q i h b k. other q i (λ e. omega arith) b k ∙ r.left q i (omega arith) b k;
    }
      where
        go : (q i : ℕ) → i < columns → q < most_locations → Dec (q ≡ s)
            → (q ≢ s → get_or l (place q i) 0 ≡ changed place sets j column value before q i)
            → get_or m (place q i) 0 ≡ changed place sets j column value before q i
        go q i k b (yes e) f = rw e (row i k)
        go q i k b (no ne) f = other q i ne b k ∙ f ne

    pub rows_no : in_family sets j s ≡ false → Rows place columns sets j column value before (s + 1) l
    rows_no e = rows_more l (λ i h. r.left s i (omega arith) few h ∙ sym (changed_no place sets j column value before s e i)) (λ q i n b h. refl)

    pub rows_yes : in_family sets j s ≡ true → column < columns → place s column < length l
        → ((q i : ℕ) → q < most_locations → i < columns → place q i ≡ place s column → (q ≡ s) × (i ≡ column))
        → {v : ℕ} → v ≡ value (get_or l (place s column) 0) → Rows place columns sets j column value before (s + 1) (set l (place s column) v)
    rows_yes e c long apart {v} w =
        rows_more m (λ i h. row i h (ℕ_discrete i column)) (λ q i n b h. get_or-set_other l _ (place q i) _ 0 (λ p. n (apart q i b h p).0))
      where
        m : List ℕ
        m = set l (place s column) v

        here : get_or m (place s column) 0 ≡ changed place sets j column value before s column
        here =
            get_or-set_same l (place s column) v 0 long ∙ w ∙ ap value (r.left s column (omega arith) few c)
            ∙ sym (changed_here place sets j column value before s e)

        row : (i : ℕ) → i < columns → Dec (i ≡ column) → get_or m (place s i) 0 ≡ changed place sets j column value before s i
        row i h (yes p) = rw p here
        row i h (no n) =
            get_or-set_other l (place s column) (place s i) v 0 (λ p. n (apart s i few h p).1) ∙ r.left s i (omega arith) few h
            ∙ sym (changed_other place sets j column value before s i (λ p. n (sym p)))
