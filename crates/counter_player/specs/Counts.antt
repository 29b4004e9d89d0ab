-- The counts of the 64 timers that a chart can have, as the code keeps them on the counter board.
use Rattle.std.specs.Prelude.{◌≡◌, ℕ, ◌+◌, ◌<◌, min, List, length, slice_index}
use Rattle.counter_model.specs.Counter.{most_count}

-- 64 counts d ticks later
pub record Risen (d : ℕ) (before after : List ℕ) : Type 0 where
  pub number : length after ≡ 64
  pub count : (j : ℕ) → j < 64 → slice_index after j ≡ min (slice_index before j + d) most_count
