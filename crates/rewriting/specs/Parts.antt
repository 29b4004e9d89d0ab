-- What the parts of the rewriting are given and what they answer, for whichever chart the lists are of.
use Rattle.std.specs.Prelude.{◌≡◌, List, ℕ, leb, length}
use Rattle.model.specs.Answer.{Answer, returned, then, unless, nowhere}
use Rattle.model.specs.Chart.{Chart}
use Rattle.model.specs.Live.{tested_sets}
use Rattle.model.specs.Valid.{Storable}
use Rattle.model.specs.Judge.{Rewriting, judged, fitted}
use Rattle.file_format.specs.File.{file_of}
use Rattle.chart_lists.specs.declared.Header.{Header}
use Rattle.chart_lists.specs.Header.{header_of}
use Rattle.chart_lists.specs.Lists.{Lists}
use Rattle.chart_lists.specs.Holds.{Holds}
use Rattle.chart_lists.specs.Begins.{Begins}

-- 21 if the buffer is too short for the file of the chart
unfoldable pub into_room : (room : ℕ) → Chart → Answer Chart
into_room room c = unless (leb (length (file_of c)) room) 21 nowhere (returned c)

-- 11, then 20, then 21, else the rewritten chart of one that is judged
unfoldable pub fitted_into : (K room : ℕ) → Chart → Answer Rewriting
fitted_into K room c = then (fitted K c) (λ x. unless (leb (length (file_of x.chart)) room) 21 nowhere (returned x))

-- a chart that is judged stands in the lists, its header and its tested sets beside them
pub record JudgedChart (c : Chart) (m : Header) (l : Lists) (sets : List ℕ) : Type 0 where
  pub header_is : m ≡ header_of c
  pub accepted : judged c ≡ returned c
  pub storable : Storable c
  pub held : Holds c l
  pub tested : Begins (tested_sets c) sets
