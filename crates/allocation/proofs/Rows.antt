-- The numbers of a word that stand in rows, and the lowest that stands in none, word by word.
use mathlib.Core.Path.{◌≡◌, sym, ap, ◌∙◌}
use mathlib.Core.Logic.{◌⊎◌, inl, inr}
use mathlib.Core.Bool.{Bool, true, not, ◌||◌, or-false, or_assoc}
use mathlib.Core.List.{List}
use Prim.Native.Nat.{ℕ, ◌+◌, ◌-◌, ◌*◌, ◌/◌, ◌%◌, ◌≤◌, ◌<◌}
use native.Mathlib.Numerals.{add-one}
use native.Mathlib.Omega.{arith}
use lib.Dec.{eqb}
use lib.ListN.{get_or}
use borrow.Author.Tests.{eq-eqb, ne_eqb}
use Rattle.lists.specs.Lists.{lowest}
use Rattle.lists.proofs.Bools.{same_bool, same_number, not-false, lt_or_le}
use Rattle.lists.proofs.Lowest.{lowest_passes, lowest_before, lowest_is}
use Rattle.timer_set.specs.Members.{member, added, lowest_missing}
use Rattle.timer_set.proofs.Members.{member_added}
use Rattle.allocation.specs.Rows.{any_below, in_row}
use Rattle.allocation.specs.Cells.{most_cells, most_words}

-- ---- one row

module _ (cells : List ℕ) (s w : ℕ) where
  pub row_none : (b : Bool) (x : ℕ) → b ≡ (b || in_row cells s (64 * w + x) 0)
  unfolding in_row any_below
  row_none b x = sym (or-false b)

  module _ (set before i x : ℕ) (h : x < 64) (e : member set x ≡ (member before x || in_row cells s (64 * w + x) i)) where
    abbrev y : ℕ
    y = get_or cells (64 * s + i) 0

    row_more : member set x || eqb y (64 * w + x) ≡ (member before x || in_row cells s (64 * w + x) (i + 1))
    unfolding in_row any_below
    row_more = rw (add-one, e) (or_assoc (member before x) _ _)

    pub row_yes : y / 64 ≡ w → member (added set (y % 64)) x ≡ (member before x || in_row cells s (64 * w + x) (i + 1))
    row_yes d = member_added set (y % 64) x ∙ ap (λ (b : Bool). member set x || b) same ∙ row_more
      where
        same : eqb x (y % 64) ≡ eqb y (64 * w + x)
        same = same_bool _ _
            (λ t. let n : x ≡ y % 64 = same_number t in eq-eqb y (64 * w + x) (omega arith))
            (λ t. let n : y ≡ 64 * w + x = same_number t in eq-eqb x (y % 64) (omega arith))

    pub row_no : (y / 64 ≡ w → ⊥) → member set x ≡ (member before x || in_row cells s (64 * w + x) (i + 1))
    row_no d = sym (or-false (member set x)) ∙ ap (λ (b : Bool). member set x || b) (sym (ne_eqb y (64 * w + x) (λ n. d (omega arith)))) ∙ row_more

-- ---- the lowest number that does not pass, 64 at a time

module _ (f : ℕ → Bool) (set w : ℕ) (word : (x : ℕ) → x < 64 → member set x ≡ f (64 * w + x)) (below : (k : ℕ) → k < 64 * w → f k ≡ true) where
  -- the numbers of the word below its lowest missing one pass
  word_below : (k : ℕ) → k < 64 * w + lowest_missing set → k < 64 * w + 64 → f k ≡ true
  unfolding lowest_missing
  word_below k h h' = go (lt_or_le k (64 * w))
    where
      go : (k < 64 * w) ⊎ (64 * w ≤ k) → f k ≡ true
      go (inl l) = below k l
      go (inr l) =
          let e : 64 * w + (k - 64 * w) ≡ k = omega arith in
          rw e at (sym (word (k - 64 * w) (omega arith)) ∙ not-false _ (lowest_before (λ j. not (member set j)) 64 (k - 64 * w) (omega arith)))

  pub word_found : lowest_missing set < 64 → w < most_words → 64 * w + lowest_missing set ≡ lowest (λ k. not (f k)) most_cells
  unfolding lowest_missing
  word_found h l = sym (lowest_is (λ k. not (f k)) most_cells (64 * w + lowest_missing set) (omega arith)
      (λ _. ap not (sym (word (lowest_missing set) h)) ∙ lowest_passes (λ j. not (member set j)) 64 h)
      (λ k b. ap not (word_below k b (omega arith))))

  pub word_full : 64 ≤ lowest_missing set → (k : ℕ) → k < 64 * (w + 1) → f k ≡ true
  word_full h k b = word_below k (omega arith) (omega arith)

pub all_full : (f : ℕ → Bool) → ((k : ℕ) → k < most_cells → f k ≡ true) → most_cells ≡ lowest (λ k. not (f k)) most_cells
all_full f h = sym (lowest_is (λ k. not (f k)) most_cells most_cells (omega arith) (λ b. absurd (omega arith)) (λ k b. ap not (h k b)))
