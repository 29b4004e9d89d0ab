-- Files that hold charts, and lists that hold them.
use Rattle.std.specs.Prelude.{◌≡◌, List, ℕ}
use Rattle.model.specs.Answer.{returned}
use Rattle.model.specs.Chart.{Chart}
use Rattle.model.specs.Judge.{judged}
use Rattle.model.specs.Places.{Accepted}
use Rattle.file_format.specs.File.{chart_in}
use Rattle.chart_lists.specs.declared.Header.{Header}
use Rattle.chart_lists.specs.Header.{header_of}
use Rattle.chart_lists.specs.Lists.{lists, lists_of}
use Rattle.chart_lists.specs.Holds.{Holds}

-- the file holds a chart with a property
pub record HoldsChart (bs : List ℕ) (P : Chart → Type 0) : Type 0 where
  pub chart : Chart
  pub reads : chart_in bs ≡ returned chart
  pub has : P chart

-- the file holds this chart, which neither 9 nor 10 refuses
pub record Accepts (bs : List ℕ) (c : Chart) : Type 0 where
  pub reads : chart_in bs ≡ returned c
  pub accepted : Accepted c

-- the file's chart, which the judgement accepts, with its header: what an answer that is no refusal says of the file
pub record AcceptedChart (bs : List ℕ) (m : Header) : Type 0 where
  pub chart : Chart
  pub reads : chart_in bs ≡ returned chart
  pub accepted : judged chart ≡ returned chart
  pub header_is : m ≡ header_of chart

-- those of a chart's lists that 9 and 10 are judged by begin with the chart's own
abbrev pub HoldsTransitions : Chart → (sources targets starts test_counts timers : List ℕ) → Type 0
HoldsTransitions c s t w g j = Holds c (lists (lists_of c).accepting s t (lists_of c).events w g j (lists_of c).codes (lists_of c).constants)
