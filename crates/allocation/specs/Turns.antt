-- The families in turn, by rising number, and the locations in turn: what is done once those below one have had theirs.
use Rattle.std.specs.Prelude.{◌≡◌, Bool, true, ◌&&◌, List, [], ℕ, ◌+◌, ◌*◌, ◌/◌, ◌%◌, ◌<◌, eqb, length, get_or}
use Rattle.timer_set.specs.Members.{member}
use Rattle.lists.specs.Lists.{memb, gather}
use Rattle.model.specs.Family.{Pairs, is_pair, Family, family_of, family_from, WellFormed}
use Rattle.model.specs.FirstFit.{Placed, place, used_by}
use Rattle.model.specs.Rewrite.{numbering}
use Rattle.families.specs.Propagation.{LinkLists}
use Rattle.families.specs.declared.links.Link.{Link}
use Rattle.allocation.specs.Cells.{no_number, cells_of}
use Rattle.allocation.specs.FamiliesAt.{FamiliesAt}
use Rattle.allocation.specs.Rows.{in_family, held_length}

-- ---- the families in turn

-- a family begins at the pair of number x: this is a pair, and the lowest of its family
unfoldable pub is_root : Pairs → ℕ → Bool
is_root p x = is_pair p (x / 64) (x % 64) && eqb (family_of p (x / 64) (x % 64)).first (x / 64)

-- the families that begin below x, by rising number
unfoldable pub families_to : Pairs → ℕ → List Family
families_to p x = gather (λ y. family_from p (y / 64) (y % 64)) x

-- the same, placed
abbrev pub placed_below : Pairs → ℕ → List Placed
placed_below p x = place (families_to p x) []

-- the families that begin below x have their numbers, and are counted and marked at their locations
pub record NumberedTo (p : Pairs) (x : ℕ) (cells at : List ℕ) (used count : ℕ) : Type 0 where
  pub cells_are : cells ≡ cells_of (numbering (placed_below p x)) p.locations
  pub used_is : used ≡ used_by (placed_below p x)
  pub count_is : count ≡ length (families_to p x)
  pub at_are : FamiliesAt (families_to p x) at

-- the timers whose families begin at location q, and at each location those whose family has it
pub record Roots (p : Pairs) (q roots : ℕ) (sets : List ℕ) : Type 0 where
  pub formed : WellFormed p
  pub locations_are : p.locations ≡ length sets
  pub here : q < p.locations
  pub timers : (j : ℕ) → j < 64 → member roots j ≡ is_root p (64 * q + j)
  pub families : (j s : ℕ) → member roots j ≡ true → in_family sets j s ≡ memb s (family_of p q j).locations

-- ---- the locations in turn

-- the lists are of the pairs p: the set of each location, and the links that have timers
pub record Described (p : Pairs) (live : List ℕ) (links : List Link) : Type 0 where
  pub formed : WellFormed p
  pub sets_are : p.sets ≡ live
  pub locations_are : p.locations ≡ length live
  pub links_are : LinkLists p links

-- the pairs whose family begins below location q
pub record PlacedTo (p : Pairs) (q : ℕ) (placed : List ℕ) : Type 0 where
  pub has : (s j : ℕ) → is_pair p s j ≡ true → (family_of p s j).first < q → member (get_or placed s 0) j ≡ true
  pub only : (s j : ℕ) → member (get_or placed s 0) j ≡ true → (is_pair p s j ≡ true) × ((family_of p s j).first < q)

-- what the loop over the locations begins with
pub record Fresh (live sets placed cells held at : List ℕ) : Type 0 where
  pub sets_long : length sets ≡ length live
  pub placed_long : length placed ≡ length live
  pub cells_long : length cells ≡ 64 * length live
  pub held_long : length held ≡ held_length
  pub at_long : length at ≡ length live
  pub none_placed : (s : ℕ) → get_or placed s 0 ≡ 0
  pub none_held : (x : ℕ) → get_or held x 0 ≡ 0
  pub none_at : (s : ℕ) → get_or at s 0 ≡ 0
  pub none_numbered : (x : ℕ) → x < 64 * length live → get_or cells x 0 ≡ no_number
