-- Plans that give meeting families different numbers, and the fewest timers of any (document 02, P1), in the words of paths and transitions alone, as
-- `SharingRule` has them: a pair is written q j, and j q s relates two locations of one timer, which stands for all its twins.
use Rattle.std.specs.Prelude.{◌≡◌, true, List, ℕ, ◌≤◌, ◌<◌, length}
use Rattle.lists.specs.Lists.{memb}
use Rattle.model.specs.Chart.{Chart}
use Rattle.model.specs.Path.{Live}
use Rattle.model.specs.Twins.{Twins}
use Rattle.model.specs.Rewrite.{Numbering}
use Rattle.model.specs.Plan.{Has}
use Rattle.model.specs.SharingRule.{SameFamily, FamilyNumber, FamiliesMeet}

-- N is such a plan, with N.used timers
pub record SharingPlan (c : Chart) (N : Numbering) : Type 0 where
  -- every timer has a number where it is live
  pub numbered : (q j : ℕ) → Live c q j → (n : ℕ) × Has N q j n
  -- and nowhere else
  pub live : (q j n : ℕ) → Has N q j n → Live c q j
  -- the pairs of a family, twins' pairs among them, have one number
  pub one_number : (q s j i n : ℕ) → SameFamily c j q s → Twins c j i → Live c s i → Has N q j n → Has N s i n
  -- families that meet have different numbers; two of twins that meet are the same family
  pub different : (q j s i n : ℕ) → FamiliesMeet c q j s i → Has N q j n → Has N s i n → Twins c j i
  -- the numbers are those of its timers
  pub below : (q j n : ℕ) → Has N q j n → n < N.used

-- m is the smallest number of timers in any plan
pub record FewestTimers (c : Chart) (m : ℕ) : Type 0 where
  pub numbering : Numbering
  pub plan : SharingPlan c numbering
  pub used_is : numbering.used ≡ m
  pub least : (N : Numbering) → SharingPlan c N → m ≤ N.used

-- there are at most n families: so many numbers are enough to name the family of every pair
pub record FamiliesAtMost (n : ℕ) (c : Chart) : Type 0 where
  pub numbers : List ℕ
  pub few : length numbers ≤ n
  pub named : (q j m : ℕ) → FamilyNumber c q j m → memb m numbers ≡ true
