-- The rule by which drawn timers share board timers (document 01, "Live, born, family, board number"; document 02, P6), in the words of paths and
-- transitions alone. That first fit keeps it, and that no other numbering does, is shown in proofs/.
--
-- A pair is written by its location, then its timer: q j. Links and families join pairs of one timer, which stands for all its twins: they relate two
-- locations, j q s. What is said of two families takes a pair of the one, then a pair of the other, q j s i, and reads in that order.
use Rattle.std.specs.Prelude.{◌≡◌, false, List, ℕ, suc, ◌+◌, ◌*◌, ◌≤◌, ◌<◌}
use Rattle.lists.specs.Lists.{memb}
use Rattle.model.specs.Chart.{Transition, Chart, Nth}
use Rattle.model.specs.Path.{Live}
use Rattle.model.specs.Twins.{Twins, LowestTwin, TwinLive}
use Rattle.model.specs.Chain.{Chain, Between}
use Rattle.model.specs.Rewrite.{Numbering}
use Rattle.model.specs.Plan.{Has}

-- A pair is a location with a timer of which a twin is live there. The pairs (q, j) and (s, j) are linked when a transition that does not start j
-- runs from one's location to the other's.
pub record LiveLink (c : Chart) (j q s : ℕ) : Type 0 where
  pub number : ℕ
  pub transition : Transition
  pub is_nth : Nth c number transition
  pub not_started : memb j transition.starts ≡ false
  pub ends : Between transition.source transition.target q s
  pub live_one : TwinLive c q j
  pub live_other : TwinLive c s j

-- (s, j) is of the family of the pair (q, j): a chain of links joins them, over the locations of the way
pub record SameFamily (c : Chart) (j q s : ℕ) : Type 0 where
  pub pair : TwinLive c q j
  pub way : List ℕ
  pub chain : Chain (LiveLink c j) q way s

-- n is the number of the family of (q, j): the smallest 64 times location plus timer among its pairs, the timer being the lowest twin
pub record FamilyNumber (c : Chart) (q j n : ℕ) : Type 0 where
  pub location : ℕ
  pub lowest : ℕ
  pub same : SameFamily c j q location
  pub is_lowest : LowestTwin c j lowest
  pub is_its : n ≡ 64 * location + lowest
  pub smallest : (s : ℕ) → SameFamily c j q s → n ≤ 64 * s + lowest

-- the family of (q, j) comes before that of (s, i): it has the lower number
pub record Earlier (c : Chart) (q j s i : ℕ) : Type 0 where
  pub lower : ℕ
  pub higher : ℕ
  pub is_lower : FamilyNumber c q j lower
  pub is_higher : FamilyNumber c s i higher
  pub rises : lower < higher

-- the families of (q, j) and (s, i) meet: they contain a common location
pub record FamiliesMeet (c : Chart) (q j s i : ℕ) : Type 0 where
  pub location : ℕ
  pub of_one : SameFamily c j q location
  pub of_other : SameFamily c i s location

-- an earlier family that the family of (q, j) meets holds k: that of (location, timer)
pub record HeldEarlier (c : Chart) (N : Numbering) (q j k : ℕ) : Type 0 where
  pub location : ℕ
  pub timer : ℕ
  pub earlier : Earlier c location timer q j
  pub meet : FamiliesMeet c location timer q j
  pub number : Has N location timer k

-- the rule: N numbers the live timers as documents 01 and 02 say
pub record SharingRule (c : Chart) (N : Numbering) : Type 0 where
  -- every timer has a number where it is live
  pub numbered : (q j : ℕ) → Live c q j → (k : ℕ) × Has N q j k
  -- and nowhere else
  pub live : (q j k : ℕ) → Has N q j k → Live c q j
  -- the pairs of a family, twins' pairs among them, have one number
  pub one_number : (q s j i k : ℕ) → SameFamily c j q s → Twins c j i → Live c s i → Has N q j k → Has N s i k
  -- no earlier family that the pair's family meets holds its number
  pub free : (q j k : ℕ) → Has N q j k → HeldEarlier c N q j k → ⊥
  -- and each smaller number is held by such a one
  pub smaller_held : (q j k m : ℕ) → Has N q j k → m < k → HeldEarlier c N q j m
  -- used is above every number given
  pub used_above : (q j k : ℕ) → Has N q j k → k < N.used
  -- and one more than the largest; where there is no pair it is 0
  pub used_reached : (u : ℕ) → N.used ≡ suc u → (q : ℕ) × (j : ℕ) × Has N q j u

-- 20: all K numbers are held by earlier families that the family of some pair meets
pub record AllNumbersHeld (K : ℕ) (c : Chart) (N : Numbering) : Type 0 where
  pub location : ℕ
  pub timer : ℕ
  pub pair : Live c location timer
  pub held : (k : ℕ) → k < K → HeldEarlier c N location timer k
