-- Which families of a list contain each location, up to as many as are searched.
use Rattle.std.specs.Prelude.{◌≡◌, Bool, false, List, [], ◌∷◌, ℕ, zero, suc, ◌<◌, length, get_or}
use Rattle.timer_set.specs.Members.{member}
use Rattle.lists.specs.Lists.{memb}
use Rattle.model.specs.Family.{Family}
use Rattle.model.specs.Floor.{most_searched}

-- the i-th family of the list contains location s; none does where there is no i-th
unfoldable pub contains : List Family → (i s : ℕ) → Bool
contains [] i s = false
contains (f ∷ fs) zero s = memb s f.locations
contains (f ∷ fs) (suc i) s = contains fs i s

-- the word of each location has those of the first 20 families, by their places in the list, that contain it
pub record FamiliesAt (fs : List Family) (at : List ℕ) : Type 0 where
  pub holds : (s i : ℕ) → s < length at → i < most_searched → member (get_or at s 0) i ≡ contains fs i s
