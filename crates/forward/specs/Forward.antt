-- Sets of timers that go forwards along transitions: all timers at the initial location, none elsewhere, and each transition brings to its target
-- what stands at its source, but for what it cuts.
use Rattle.std.specs.Prelude.{List, ℕ, ◌<◌, length, replicate, set}
use Rattle.timer_set.specs.Members.{every_timer}
use Rattle.model.specs.Flow.{Flow, settled}
use Rattle.flow.specs.Edges.{flow_of, SafeEdges}

-- all timers at the initial location, nothing elsewhere
abbrev pub own_sets : (initial locations : ℕ) → List ℕ
own_sets initial locations = set (replicate locations 0) initial every_timer

-- no edge gains anything
abbrev pub forward_flow : (initial locations : ℕ) → (sources targets cut : List ℕ) → Flow
forward_flow initial locations sources targets cut = flow_of targets sources cut (replicate (length sources) 0) (own_sets initial locations)

-- the sets that come of it
unfoldable pub forward_sets : (initial locations : ℕ) → (sources targets cut : List ℕ) → List ℕ
forward_sets initial locations sources targets cut = settled (forward_flow initial locations sources targets cut)

-- what the code asks for its safety: the initial location is one, and every transition leads from a location to a location
pub record SafeForward (initial locations : ℕ) (sources targets cut : List ℕ) : Type 0 where
  pub inside : initial < locations
  pub edges : SafeEdges targets sources cut (replicate (length sources) 0) (own_sets initial locations)
