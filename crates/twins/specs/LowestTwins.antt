-- The lowest twins of timers as a list, and the set of those that are their own.
use Rattle.std.specs.Prelude.{◌≡◌, true, false, List, ℕ, ◌≤◌, ◌<◌, eqb, length, get_or}
use Rattle.lists.specs.Lists.{pick}
use Rattle.timer_set.specs.Members.{member, common, minus, set_of}
use Rattle.model.specs.Twins.{lowest_in_same}

-- those timers of w that are in the set s exactly if j is
unfoldable pub narrowed : (w s j : ℕ) → ℕ
narrowed w s j = elim (member s j) [ true ↦ common w s | false ↦ minus w s ]

-- the lowest twin of j by the list
abbrev pub lowest_at : (lowest : List ℕ) → (j : ℕ) → ℕ
lowest_at lowest j = get_or lowest j 0

-- of n timers the set of those below i that are the lowest in the same sets as themselves
abbrev pub own_below : List ℕ → (n i : ℕ) → ℕ
own_below ws n i = set_of (pick (λ j. eqb (lowest_in_same ws n j) j) i)

-- all of them
unfoldable pub own_lowest : List ℕ → (n : ℕ) → ℕ
own_lowest ws n = own_below ws n n

-- every timer of the set is listed with its lowest twin, which is no higher
pub record LowestListed (w : ℕ) (lowest : List ℕ) : Type 0 where
  pub listed : (j : ℕ) → member w j ≡ true → j < length lowest
  pub low : (j : ℕ) → member w j ≡ true → lowest_at lowest j ≤ j

-- so is every timer of each of the sets, and those in `own` are the ones that are their own lowest twin
pub record LowestOf (sets lowest : List ℕ) (own : ℕ) : Type 0 where
  pub each : (q : ℕ) → q < length sets → LowestListed (get_or sets q 0) lowest
  pub own_are : (q : ℕ) → q < length sets → (j : ℕ) → member (get_or sets q 0) j ≡ true → member own j ≡ eqb (lowest_at lowest j) j
