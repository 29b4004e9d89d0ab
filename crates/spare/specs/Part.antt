-- The lists of the part of a chart that counts.
use Rattle.std.specs.Prelude.{◌≡◌, List, ℕ, length}
use Rattle.model.specs.Chart.{Chart}
use Rattle.model.specs.Live.{tested_sets}
use Rattle.model.specs.Spare.{reached_part}
use Rattle.chart_lists.specs.Begins.{Begins}
use Rattle.chart_lists.specs.Holds.{Holds}
use Rattle.chart_lists.specs.Partly.{edges_of}

-- the lists begin with those of the part that counts of c, which has n transitions
pub record PartListed (c : Chart) (sources targets starts tested : List ℕ) (n : ℕ) : Type 0 where
  pub count : n ≡ length (reached_part c).transitions
  pub edges : Holds (reached_part c) (edges_of (reached_part c) sources targets starts)
  pub tested_are : Begins (tested_sets (reached_part c)) tested
