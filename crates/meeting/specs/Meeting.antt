-- Which families of a list meet, by the families at each location, and what is asked for the fewest timers of any plan. A family is named by its
-- place in the list.
use Rattle.std.specs.Prelude.{◌≡◌, Bool, true, not, ◌&&◌, List, ℕ, ◌≤◌, ◌<◌, eqb, length, get_or}
use mathlib.Core.Option.{some}
use lib.ListN.{get_elem?}
use Rattle.timer_set.specs.Members.{member}
use Rattle.lists.specs.Lists.{memb}
use Rattle.model.specs.Family.{Family, meets}
use Rattle.model.specs.SmallestPlan.{fewest}
use Rattle.model.specs.Floor.{most_searched}
use Rattle.allocation.specs.FamiliesAt.{FamiliesAt}
use Rattle.allocation.specs.Rows.{in_family, some_in}

-- the families i and j are different, and one of the locations has both
unfoldable pub meet_at : (at : List ℕ) → (i j : ℕ) → Bool
meet_at at i j = some_in at i (λ s. in_family at j s) (length at) && not (eqb j i)

-- row i has the families that the i-th meets, without itself
pub record RowsOf (fs : List Family) (rows : List ℕ) : Type 0 where
  pub meet : (i j : ℕ) (g h : Family) → get_elem? fs i ≡ some g → get_elem? fs j ≡ some h → member (get_or rows i 0) j ≡ (meets g h && not (eqb j i))

-- the words have the families of the list at each location, the list is short enough to be searched, and its fewest timers are between low and high
pub record Asked (fs : List Family) (at : List ℕ) (families low high : ℕ) : Type 0 where
  pub at_are : FamiliesAt fs at
  pub inside : (i s : ℕ) (g : Family) → get_elem? fs i ≡ some g → memb s g.locations ≡ true → s < length at
  pub count_is : families ≡ length fs
  pub few : families ≤ most_searched
  pub low_is : low ≤ fewest fs
  pub high_is : fewest fs ≤ high
  pub high_few : high ≤ families
