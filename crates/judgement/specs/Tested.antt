-- The sets of the timers that transitions test, from the numbers of their tests and the tests' timers one after another; and where a transition tests
-- a timer of its source's set.
use Rattle.std.specs.Prelude.{Bool, not, List, [], ◌∷◌, ℕ, ◌≤◌, ◌<◌, length, get_or, take, drop}
use Rattle.lists.specs.Lists.{sum_of}
use Rattle.timer_set.specs.Members.{common, set_of}
use Rattle.model.specs.Live.{is_empty}

-- the set of the first n timers, then that of the next, ..
unfoldable pub sets_in : (test_counts timers : List ℕ) → List ℕ
sets_in [] ts = []
sets_in (n ∷ ns) ts = set_of (take n ts) ∷ sets_in ns (drop n ts)

-- what the code asks for its safety: so many timers are there, and a set holds every one
pub record TimersFor (test_counts timers : List ℕ) : Type 0 where
  pub enough : sum_of test_counts ≤ length timers
  pub small : (i : ℕ) → i < sum_of test_counts → get_or timers i 0 < 64

-- transition i tests a timer of its source's set
abbrev pub tests_at : (sources tested sets : List ℕ) → ℕ → Bool
tests_at sources tested sets i = not (is_empty (common (get_or tested i 0) (get_or sets (get_or sources i 0) 0)))
