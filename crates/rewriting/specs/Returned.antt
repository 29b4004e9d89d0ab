-- What the rewriting returns: of which chart it is the rewriting, what becomes of each part of that chart (document 01, "Live, born, family, board
-- number", the rewritten chart; document 02, P7), and that it fits the board and a file.
use Rattle.std.specs.Prelude.{◌≡◌, ◌↔◌, true, List, [], ℕ, ◌≤◌}
use Rattle.lists.specs.Lists.{memb}
use Rattle.lists.specs.Elements.{PlaceByPlace}
use Rattle.model.specs.Answer.{returned}
use Rattle.model.specs.Chart.{Test, Transition, Chart, Nth}
use Rattle.model.specs.Valid.{Storable}
use Rattle.model.specs.Path.{Born, Reached}
use Rattle.model.specs.Spare.{reached_part}
use Rattle.model.specs.FirstFit.{used}
use Rattle.model.specs.Rewrite.{NamesBelow, board_numbering}
use Rattle.model.specs.Plan.{Has}
use Rattle.model.specs.Judge.{Rewriting, rewriting}
use Rattle.file_format.specs.File.{chart_in, file_of}

-- the file's chart, of which x is the rewriting
pub record RewritingOf (K : ℕ) (bs : List ℕ) (x : Rewriting) : Type 0 where
  pub chart : Chart
  pub reads : chart_in bs ≡ returned chart
  pub made : rewriting K chart ≡ returned x

-- a test t of the chart, on a transition that leaves q, and the test t' that stands in its place
pub record RewrittenTest (c : Chart) (q : ℕ) (t t' : Test) : Type 0 where
  -- t' reads the board number that t's timer has at q
  pub timer : Has (board_numbering (reached_part c)) q t.timer t'.timer
  pub comparison : t'.comparison ≡ t.comparison
  pub constant : t'.constant ≡ t.constant

-- a transition r of the chart, and the transition r' that stands in its place
pub record RewrittenTransition (c : Chart) (r r' : Transition) : Type 0 where
  pub source : r'.source ≡ r.source
  pub target : r'.target ≡ r.target
  pub event : r'.event ≡ r.event
  -- where a path reaches its source, r' starts k exactly where k is the number, at the target, of a timer born on r
  pub starts : Reached c r.source → (k : ℕ)
      → (memb k r'.starts ≡ true) ↔ ((j : ℕ) × Born c r j × Has (board_numbering (reached_part c)) r.target j k)
  -- and every test is kept, in its place, and reads the number at the source
  pub tests : Reached c r.source → PlaceByPlace (RewrittenTest c r.source) r.tests r'.tests
  -- where none does, r' starts nothing and tests nothing
  pub spare_starts : (Reached c r.source → ⊥) → r'.starts ≡ []
  pub spare_tests : (Reached c r.source → ⊥) → r'.tests ≡ []

-- x is the chart rewritten: all is kept but the number of timers, the timers that tests and starts name, and the tests and starts of transitions that
-- leave a spare location
pub record RewrittenChart (c : Chart) (x : Rewriting) : Type 0 where
  pub version : x.chart.version ≡ c.version
  pub locations : x.chart.locations ≡ c.locations
  pub initial : x.chart.initial ≡ c.initial
  pub accepting : x.chart.accepting ≡ c.accepting
  pub timers : x.chart.timers ≡ x.used
  pub used : x.used ≡ used (reached_part c)
  pub transitions : PlaceByPlace (RewrittenTransition c) c.transitions x.chart.transitions

-- what is returned fits the board and a file
pub record FitsBoard (K : ℕ) (x : Rewriting) : Type 0 where
  -- every timer that a start or a test names is below used
  pub names_below : (i : ℕ) (r : Transition) → Nth x.chart i r → NamesBelow x.used r
  pub fits : x.used ≤ K
  pub limit : K ≤ 64
  pub storable : Storable x.chart
  pub read_again : chart_in (file_of x.chart) ≡ returned x.chart
