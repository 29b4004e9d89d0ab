-- What is asked for the floor of a chart.
use Rattle.std.specs.Prelude.{◌≡◌, List, ℕ, length}
use Rattle.model.specs.Chart.{Chart}
use Rattle.model.specs.Valid.{Valid}
use Rattle.model.specs.Twins.{merged_sets}
use Rattle.model.specs.Family.{families, live_pairs}
use Rattle.model.specs.FirstFit.{used}
use Rattle.allocation.specs.FamiliesAt.{FamiliesAt}
use Rattle.numbering.specs.declared.Numbered.{Numbered}

-- a chart that a file can hold, its live sets with twins counted as one, the families at each of its locations, how many numbers it uses and how many
-- families it has
pub record FloorAsked (c : Chart) (merged at : List ℕ) (r : Numbered) : Type 0 where
  pub width : ℕ
  pub valid : Valid width c
  pub merged_are : merged ≡ merged_sets c
  pub at_are : FamiliesAt (families (live_pairs c)) at
  pub at_long : length at ≡ c.locations
  pub used_is : r.used ≡ used c
  pub families_is : r.families ≡ length (families (live_pairs c))
