-- The board numbers of all pairs as one list of cells.
use mathlib.Core.Option.{Option, none, some}
use Rattle.std.specs.Prelude.{List, ℕ, ◌*◌, ◌/◌, ◌%◌}
use Rattle.lists.specs.Lists.{up_to}
use Rattle.model.specs.Rewrite.{Numbering}
use Rattle.chart_lists.specs.Limits.{most_locations, most_timers}

-- a cell for each timer of each location: the most there are, and so the most numbers that families can need
abbrev pub most_cells : ℕ
most_cells = most_locations * most_timers

-- the words of 64 numbers that these take
abbrev pub most_words : ℕ
most_words = most_cells / 64

-- the cell of a pair that has no number, which no number given reaches
abbrev pub no_number : ℕ
no_number = 65535

abbrev pub cell : Option ℕ → ℕ
cell none = no_number
cell (some k) = k

-- the cell of (q, j) is at 64 q + j
unfoldable pub cells_of : Numbering → (locations : ℕ) → List ℕ
cells_of N n = up_to (λ i. cell (N.number (i / 64) (i % 64))) (64 * n)
