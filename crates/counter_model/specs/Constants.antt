-- Where the constants over 65,535 are that 18 looks for: on transitions that leave a location which a path reaches, and on transitions that leave a
-- spare one (document 02, P5 and P7). 18 looks at both; a rewritten chart has no tests on the latter.
use Rattle.model.specs.Chart.{Chart}
use Rattle.model.specs.Version.{LargeConstant}
use Rattle.model.specs.Path.{Reached}

-- one is on a transition that leaves a reached location
pub record LargeReached (c : Chart) : Type 0 where
  pub large : LargeConstant c
  pub reached : Reached c large.transition.source

-- one is on a transition that leaves a spare location
pub record LargeSpare (c : Chart) : Type 0 where
  pub large : LargeConstant c
  pub spare : Reached c large.transition.source → ⊥
