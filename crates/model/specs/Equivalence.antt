-- Demand 3 on charts: two charts behave alike.
use Rattle.std.specs.Prelude.{◌≡◌, ◌⊎◌, ◌↔◌, Bool, true, List, [], ◌∷◌, ◌++◌, ℕ, length}
use mathlib.Core.Option.{some}
use lib.ListN.{get_elem?}
use Rattle.lists.specs.Lists.{memb}
use Rattle.model.specs.Chart.{Test, Transition, Chart, Nth}
use Rattle.model.specs.Run.{Counts, State, Step, Run, EndsAccepting, waited, every_time, player_time}
use Rattle.model.specs.Player.{answer_of}

-- the step e starts timer k
pub record Starts (c : Chart) (k : ℕ) (e : Step) : Type 0 where
  pub transition : Transition
  pub is_nth : Nth c e.transition transition
  pub starts_it : memb k transition.starts ≡ true

-- some step of the list starts timer k
abbrev pub StartedIn : Chart → ℕ → List Step → Type 0
StartedIn c k [] = ⊥
StartedIn c k (e ∷ es) = Starts c k e ⊎ StartedIn c k es

-- the test t of the drawn chart, number k on its transition i, stands in the other chart too: the same comparison with the same constant, on a
-- timer that a step taken before has started and that shows the count of the drawn timer
pub record Reads (c' : Chart) (taken : List Step) (s s' : State) (i k : ℕ) (t : Test) : Type 0 where
  pub transition : Transition
  pub is_nth : Nth c' i transition
  pub leaves : transition.source ≡ s'.location
  pub test : Test
  pub is_test : get_elem? transition.tests k ≡ some test
  pub comparison : test.comparison ≡ t.comparison
  pub constant : test.constant ≡ t.constant
  pub started : StartedIn c' test.timer taken
  pub shows : s'.counts test.timer ≡ s.counts t.timer

-- two points after the same steps: the same location and time; a transition that leaves it has as many tests in both charts, and each reads the same
pub record SamePoint (c c' : Chart) (taken : List Step) (s s' : State) : Type 0 where
  pub location : s.location ≡ s'.location
  pub time : s.time ≡ s'.time
  pub as_many : (i : ℕ) (r r' : Transition) → Nth c i r → Nth c' i r' → r.source ≡ s.location → length r.tests ≡ length r'.tests
  pub reads : (i : ℕ) (r : Transition) → Nth c i r → r.source ≡ s.location
      → (k : ℕ) (t : Test) → get_elem? r.tests k ≡ some t → Reads c' taken s s' i k t

-- the points that both charts reach by the first steps of a run, after every wait
pub record SamePoints (c c' : Chart) (v w : Counts) (taken : List Step) : Type 0 where
  pub left : State
  pub left' : State
  pub run : Run c v taken left
  pub run' : Run c' w taken left'
  pub waits : (d : ℕ) → SamePoint c c' taken (waited d left) (waited d left')

-- the list is a run, whatever it leaves
abbrev pub IsRun : Chart → Counts → List Step → Type 0
IsRun c v es = (s : State) × Run c v es s

-- The clauses of demand 3, whatever the counts at the start of either, for every step list.

-- the same steps are taken, and the same one is refused for the same reason; or both arrive at the same location, time and acceptance
abbrev pub SameAnswers : (allowed : ℕ → Bool) → Chart → Chart → Type 0
SameAnswers allowed c c' = (v w : Counts) (es : List Step) → answer_of allowed c v es ≡ answer_of allowed c' w es

-- a run of one exactly when a run of the other
abbrev pub SameRuns : Chart → Chart → Type 0
SameRuns c c' = (v w : Counts) (es : List Step) → IsRun c v es ↔ IsRun c' w es

-- the same ones end accepting
abbrev pub SameAccepting : Chart → Chart → Type 0
SameAccepting c c' = (v w : Counts) (es : List Step) → EndsAccepting c v es ↔ EndsAccepting c' w es

-- at every point of a run the tests read the same
abbrev pub SameAtPoints : Chart → Chart → Type 0
SameAtPoints c c' = (v w : Counts) (taken rest : List Step) → IsRun c v (taken ++ rest) → SamePoints c c' v w taken

-- two charts behave alike
pub record Alike (c c' : Chart) : Type 0 where
  pub answers : SameAnswers every_time c c'
  pub runs : SameRuns c c'
  pub accepting : SameAccepting c c'
  pub points : SameAtPoints c c'
  -- the answers with the player's limit on times
  pub plays : SameAnswers player_time c c'
