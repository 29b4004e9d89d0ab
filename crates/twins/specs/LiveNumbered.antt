-- The lists of a chart with its live sets, and what numbering these leaves.
use Rattle.std.specs.Prelude.{◌≡◌, List, ℕ, length}
use Rattle.model.specs.Chart.{Chart}
use Rattle.model.specs.Valid.{Valid}
use Rattle.model.specs.Live.{live_sets}
use Rattle.model.specs.Twins.{merged_sets}
use Rattle.model.specs.Family.{families, live_pairs}
use Rattle.model.specs.FirstFit.{used}
use Rattle.model.specs.Rewrite.{board_numbering}
use Rattle.chart_lists.specs.Lists.{lists_of}
use Rattle.allocation.specs.Cells.{cells_of}
use Rattle.allocation.specs.FamiliesAt.{FamiliesAt}
use Rattle.allocation.specs.declared.Allocated.{Allocated}

-- of each transition its source, its target and what it starts, of each location its live set, and the number of timers
pub record LiveLists (c : Chart) (sources targets starts live : List ℕ) (timers : ℕ) : Type 0 where
  pub width : ℕ
  pub valid : Valid width c
  pub sources_are : sources ≡ (lists_of c).sources
  pub targets_are : targets ≡ (lists_of c).targets
  pub starts_are : starts ≡ (lists_of c).starts
  pub live_are : live ≡ live_sets c
  pub timers_are : timers ≡ c.timers

-- of each location its live set with twins counted as one, the cells of the board numbers, which of the first 20 families contain it, how many
-- numbers are used and how many families there are
pub record LiveNumbered (c : Chart) (merged cells at : List ℕ) (r : Allocated) : Type 0 where
  pub merged_are : merged ≡ merged_sets c
  pub cells_are : cells ≡ cells_of (board_numbering c) c.locations
  pub used_is : r.used ≡ used c
  pub families_is : r.families ≡ length (families (live_pairs c))
  pub at_are : FamiliesAt (families (live_pairs c)) at
