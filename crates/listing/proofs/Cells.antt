-- A cell of board numbers holds a number or none, as the board gives it. By cases.
use mathlib.Core.Path.{◌≡◌}
use mathlib.Core.Bool.{false}
use mathlib.Core.Option.{none, some}
use mathlib.Core.List.{[], ◌∷◌, ◌++◌}
use Prim.Native.Nat.{ℕ, ◌+◌}
use lib.Dec.{eqb}
use lib.ListN.{length}
use Rattle.lists.proofs.Bools.{is_no, same_number}
use Rattle.allocation.specs.Cells.{no_number}
use Rattle.listing.specs.Text.{decimal, space, greater}
use Rattle.listing.specs.Listing.{entry_text}
use Rattle.listing.specs.Cells.{in_cell}
use Rattle.listing.proofs.Parts.{entry_length}

pub no_number_lem : (n : ℕ) → n ≡ no_number → in_cell n ≡ none
unfolding in_cell
no_number_lem n e = rw e

pub a_number : (n : ℕ) → (n ≡ no_number → ⊥) → in_cell n ≡ some n
unfolding in_cell
a_number n h = let e : eqb n no_number ≡ false = is_no (eqb n no_number) (λ t. h (same_number t)) in rw (e, in_cell)

module _ (j n : ℕ) where
  pub entry_none : n ≡ no_number → entry_text j (in_cell n) ≡ []
  entry_none e = rw (no_number_lem n e)

  module _ (h : n ≡ no_number → ⊥) where
    pub entry_some : ((space ∷ []) ++ decimal j) ++ ((greater ∷ []) ++ decimal n) ≡ entry_text j (in_cell n)
    entry_some = rw (a_number n h)

    pub entry_size : length (entry_text j (in_cell n)) ≡ 2 + (length (decimal j) + length (decimal n))
    entry_size = rw (a_number n h) (entry_length j n)
