-- How many timers are live at a location, twins counted once (document 02, P6), in the words of paths and transitions alone: the figure that the
-- program calls `seen` is the largest such count.
use Rattle.std.specs.Prelude.{◌≡◌, ◌↔◌, true, List, ℕ, length}
use Rattle.lists.specs.Lists.{memb}
use Rattle.lists.specs.Rising.{Rising}
use Rattle.model.specs.Chart.{Chart}
use Rattle.model.specs.Path.{Live}
use Rattle.model.specs.Twins.{LowestTwin}

-- n timers are live at q, twins counted once: the lowest twins of the timers live there are n
pub record CountedOnce (c : Chart) (q n : ℕ) : Type 0 where
  pub timers : List ℕ
  -- each once
  pub rising : Rising c.timers 0 timers
  pub are : (m : ℕ) → (memb m timers ≡ true) ↔ ((j : ℕ) × Live c q j × LowestTwin c j m)
  pub count : length timers ≡ n
