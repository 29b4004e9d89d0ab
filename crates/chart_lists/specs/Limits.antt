-- The most that a chart may have, by name (document 01, "The chart").
use Rattle.std.specs.Prelude.{ℕ}

abbrev pub most_locations : ℕ
most_locations = 256

abbrev pub most_timers : ℕ
most_timers = 64

abbrev pub most_transitions : ℕ
most_transitions = 512

-- tests of all transitions
abbrev pub most_tests : ℕ
most_tests = 4096
