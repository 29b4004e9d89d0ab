-- The points of two charts' runs that demand 3 sets side by side.
use Rattle.std.specs.Prelude.{◌≡◌, List}
use Rattle.model.specs.Chart.{Chart}
use Rattle.model.specs.Run.{Counts, State, Step, Point}
use Rattle.model.specs.Equivalence.{SamePoint}

-- the point of the other chart's run, from any counts, after the same steps and the same wait, and every test there reads the same
pub record SamePointOf (c c' : Chart) (v w : Counts) (es : List Step) (s : State) (p : Point c v es s) : Type 0 where
  pub state : State
  pub point : Point c' w es state
  pub steps : point.taken ≡ p.taken
  pub wait : point.wait ≡ p.wait
  pub same : SamePoint c c' p.taken s state
