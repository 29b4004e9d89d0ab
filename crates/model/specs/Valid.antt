-- The charts that a file can hold: exactly those that the reader yields and the writer writes. Its constants have W bytes, as many as its version
-- gives them (limits: document 01, "The chart"; versions: document 02, P2).
use Rattle.std.specs.Prelude.{◌≡◌, true, false, ℕ, ◌≤◌, ◌<◌, ◌^◌, length}
use Rattle.lists.specs.Rising.{Rising, All}
use Rattle.model.specs.Chart.{Test, Transition, Chart}
use Rattle.model.specs.Version.{known_version, width_of, widest, large_in_version1}

-- the timer is one of the chart's, the constant fits its bytes
pub record ValidTest (W timers : ℕ) (t : Test) : Type 0 where
  pub timer : t.timer < timers
  pub constant : t.constant < 256 ^ W

-- ends are locations, starts rise, at most 8 tests
pub record ValidTransition (W locations timers : ℕ) (r : Transition) : Type 0 where
  pub source : r.source < locations
  pub target : r.target < locations
  pub event : r.event < 256
  pub starts : Rising timers 0 r.starts
  pub few_tests : length r.tests ≤ 8
  pub tests : All (ValidTest W timers) r.tests

-- the limits of a chart
pub record Valid (W : ℕ) (c : Chart) : Type 0 where
  pub some_location : 1 ≤ c.locations
  pub few_locations : c.locations ≤ 256
  pub initial : c.initial < c.locations
  pub few_timers : c.timers ≤ 64
  pub accepting : Rising c.locations 0 c.accepting
  pub few_transitions : length c.transitions ≤ 512
  pub transitions : All (ValidTransition W c.locations c.timers) c.transitions

-- a file of the chart's own version can hold it
pub record Storable (c : Chart) : Type 0 where
  pub known : known_version c.version ≡ true
  pub valid : Valid (width_of c.version) c

-- the same in other words: the chart is within its limits at the widest constants, and 17 does not refuse it (proofs/Versions, `storable_iff`)
pub record StorableBy (c : Chart) : Type 0 where
  pub known : known_version c.version ≡ true
  pub valid : Valid widest c
  pub not_refused : large_in_version1 c ≡ false
