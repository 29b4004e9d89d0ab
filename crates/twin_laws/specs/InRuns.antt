-- What a rewritten chart shows of the drawn timers at the points of a run (document 02, P6 and P7): not only of a timer that has a number there, but
-- of all its twins. Three charts are spoken of: the drawn one, c; the one whose twins are meant, part; and the rewritten one, c'. Assumes nothing.
use Rattle.std.specs.Prelude.{◌≡◌, List, ℕ}
use Rattle.model.specs.Chart.{Chart}
use Rattle.model.specs.Run.{Counts, State, Step, Run, waited}
use Rattle.model.specs.Twins.{Twins}
use Rattle.model.specs.Rewrite.{Numbering}
use Rattle.model.specs.Plan.{Has}
use Rattle.model.specs.Equivalence.{StartedIn}

-- two states after the same steps
pub record ShownThroughTwins (part c' : Chart) (N : Numbering) (taken : List Step) (s s' : State) : Type 0 where
  -- the board timer that has the number of i shows the count of every twin j of i, though j itself be not live there
  pub shows : (j i k : ℕ) → Twins part j i → Has N s.location i k → s'.counts k ≡ s.counts j
  -- and one of the steps has started it
  pub started : (i k : ℕ) → Has N s.location i k → StartedIn c' k taken

-- the points that the drawn chart and the rewritten one reach by the first steps of a run, after every wait
pub record ShownAtPoints (c part c' : Chart) (N : Numbering) (v w : Counts) (taken : List Step) : Type 0 where
  pub left : State
  pub left' : State
  pub run : Run c v taken left
  pub run' : Run c' w taken left'
  pub waits : (d : ℕ) → ShownThroughTwins part c' N taken (waited d left) (waited d left')
