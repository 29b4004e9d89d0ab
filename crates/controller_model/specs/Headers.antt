-- The charts of the heads as the code keeps them: an array of eight headers.
use Rattle.std.specs.Prelude.{◌≡◌, List, ℕ, ◌≤◌, length}
use mathlib.Core.Option.{some}
use lib.ListN.{get_elem?}
use Rattle.model.specs.Chart.{Chart}
use Rattle.chart_lists.specs.declared.Header.{Header}
use Rattle.chart_lists.specs.Header.{header_of}

-- the headers of at most eight charts stand at the front of the array
pub record HeadersOf (cs : List Chart) (headers : List Header) : Type 0 where
  pub number : length headers ≡ 8
  pub few : length cs ≤ 8
  pub header : (h : ℕ) (c : Chart) → get_elem? cs h ≡ some c → get_elem? headers h ≡ some (header_of c)
