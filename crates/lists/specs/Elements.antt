-- An element of a list, by its place, and two lists related place by place.
use Rattle.std.specs.Prelude.{◌≡◌, List, ℕ, length}
use mathlib.Core.Option.{some}
use lib.ListN.{get_elem?}

-- a is an element of the list
pub record Element {A : Type 0} (l : List A) (a : A) : Type 0 where
  pub place : ℕ
  pub is_nth : get_elem? l place ≡ some a

-- two lists of the same length, in which the elements of each place are related
pub record PlaceByPlace {A B : Type 0} (R : A → B → Type 0) (xs : List A) (ys : List B) : Type 0 where
  pub same_length : length xs ≡ length ys
  pub related : (k : ℕ) (x : A) (y : B) → get_elem? xs k ≡ some x → get_elem? ys k ≡ some y → R x y
