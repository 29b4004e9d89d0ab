-- A plan for a list of families: each gets a number, and families that meet get different ones. The same in the words of paths is `SharingPlan`.
use Rattle.std.specs.Prelude.{◌≡◌, true, List, ℕ, ◌<◌, length}
use mathlib.Core.Option.{some}
use lib.ListN.{get_elem?}
use Rattle.model.specs.Family.{Family, meets}

-- a plan with k timers for the families of a list: family i gets the number f i
pub record FamilyPlan (fs : List Family) (k : ℕ) (f : ℕ → ℕ) : Type 0 where
  pub below : (i : ℕ) → i < length fs → f i < k
  pub different : (i j : ℕ) (g h : Family) → get_elem? fs i ≡ some g → get_elem? fs j ≡ some h → (i ≡ j → ⊥) → meets g h ≡ true → f i ≡ f j → ⊥
