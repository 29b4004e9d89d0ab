-- What numbering leaves of a chart: its live sets and how many rounds find them, the same with twins counted as one, the cells of its board numbers
-- and how many of these are used, which of its first 20 families contain each location and how many families there are.
use Rattle.std.specs.Prelude.{◌≡◌, List, ℕ, length, take}
use Rattle.model.specs.Chart.{Chart}
use Rattle.model.specs.Live.{live_sets, live_rounds}
use Rattle.model.specs.Twins.{merged_sets}
use Rattle.model.specs.Family.{families, live_pairs}
use Rattle.model.specs.FirstFit.{used}
use Rattle.model.specs.Rewrite.{board_numbering}
use Rattle.chart_lists.specs.Begins.{Begins}
use Rattle.allocation.specs.Cells.{cells_of}
use Rattle.allocation.specs.FamiliesAt.{FamiliesAt}
use Rattle.numbering.specs.declared.Numbered.{Numbered}

-- the lists begin with those of the chart, and the answer's values are the chart's
pub record ChartNumbered (c : Chart) (live merged cells at : List ℕ) (r : Numbered) : Type 0 where
  pub live_are : Begins (live_sets c) live
  pub merged_are : Begins (merged_sets c) merged
  pub cells_are : Begins (cells_of (board_numbering c) c.locations) cells
  pub used_is : r.used ≡ used c
  pub families_is : r.families ≡ length (families (live_pairs c))
  pub rounds_is : r.rounds ≡ live_rounds c
  pub at_are : FamiliesAt (families (live_pairs c)) (take c.locations at)
