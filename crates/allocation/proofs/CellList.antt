-- The list of cells of a numbering; of placed families, how many numbers these use, and families placed one list after another.
use mathlib.Core.Path.{◌≡◌, refl, sym, ap, ◌∙◌, subst}
use mathlib.Core.Logic.{◌⊎◌, inl, inr}
use mathlib.Core.Option.{Option, none, some}
use mathlib.Core.List.{List, [], ◌∷◌, ◌++◌}
use Prim.Native.Nat.{ℕ, suc, ◌+◌, ◌*◌, ◌/◌, ◌%◌, ◌≤◌, ◌<◌, max}
use native.Mathlib.Omega.{arith}
use lib.ListN.{length, get_or}
use lib.Seq.{ext_get_or}
use Rattle.lists.specs.Lists.{top}
use Rattle.lists.proofs.Bools.{lt_or_le}
use Rattle.lists.proofs.Gather.{length_up_to, get_d_up_to}
use Rattle.lists.proofs.Flatten.{row_of, column_of}
use Rattle.model.specs.Family.{Family}
use Rattle.model.specs.FirstFit.{Placed, held, free, place, used_by, number_at}
use Rattle.model.specs.Rewrite.{Numbering, numbering}
use Rattle.model.proofs.FirstFit.{free_least, held_out, used_above}
use Rattle.allocation.specs.Cells.{no_number, cell, cells_of}

-- ---- cells

module _ (N : Numbering) (n : ℕ) where
  pub cells_length : length (cells_of N n) ≡ 64 * n
  unfolding cells_of
  cells_length = length_up_to _ (64 * n)

  pub cells_at : (s i : ℕ) → s < n → i < 64 → get_or (cells_of N n) (64 * s + i) 0 ≡ cell (N.number s i)
  unfolding cells_of
  cells_at s i h k = get_d_up_to _ (64 * n) (64 * s + i) 0 (omega arith) ∙ rw (row_of s i k, column_of s i k) refl

  -- a list with these cells
  pub cells_is : (l : List ℕ) → length l ≡ 64 * n → ((s i : ℕ) → s < n → i < 64 → get_or l (64 * s + i) 0 ≡ cell (N.number s i))
      → l ≡ cells_of N n
  cells_is l long at = ext_get_or 0 l (cells_of N n) (long ∙ sym cells_length)
      (λ x h.
      let e : 64 * (x / 64) + x % 64 ≡ x = omega arith in
      subst (λ (y : ℕ). get_or l y 0 ≡ get_or (cells_of N n) y 0) e
      (at (x / 64) (x % 64) (omega arith) (omega arith) ∙ sym (cells_at (x / 64) (x % 64) (omega arith) (omega arith))))

pub cell_some : (o : Option ℕ) (k : ℕ) → k < no_number → cell o ≡ k → o ≡ some k
cell_some none k h e = absurd (omega arith)
cell_some (some x) k h e = ap some e

pub cells_none : (n : ℕ) (l : List ℕ) → length l ≡ 64 * n → ((x : ℕ) → x < 64 * n → get_or l x 0 ≡ no_number) → l ≡ cells_of (numbering []) n
unfolding numbering number_at
cells_none n l long clear = cells_is (numbering []) n l long (λ s i h k. clear (64 * s + i) (omega arith))

-- ---- how many numbers are used

pub used_more : (g : Placed) (ps : List Placed) → used_by (g ∷ ps) ≡ max (suc g.number) (used_by ps)
unfolding used_by top
used_more g ps = refl

-- the next number is at most one that no family has
pub free_used : (f : Family) (ps : List Placed) → free (held f ps) ≤ used_by ps
free_used f ps = go (lt_or_le (used_by ps) (free (held f ps)))
  where
    go : (used_by ps < free (held f ps)) ⊎ (free (held f ps) ≤ used_by ps) → free (held f ps) ≤ used_by ps
    go (inl h) =
        let b = held_out f (used_by ps) ps (free_least (held f ps) (used_by ps) h) in
        absurd (omega (arith, b.number, used_above ps b.place b.holder b.is_nth))
    go (inr h) = h

pub place_append : (fs gs : List Family) (ps : List Placed) → place (fs ++ gs) ps ≡ place gs (place fs ps)
unfolding place
place_append [] gs ps = refl
place_append (f ∷ fs) gs ps = place_append fs gs _
