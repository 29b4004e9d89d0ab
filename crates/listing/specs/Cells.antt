-- The lines of the text from the cells of board numbers.
use Rattle.std.specs.Prelude.{true, false, List, [], ◌∷◌, ◌++◌, ℕ, ◌+◌, ◌*◌, eqb, get_or}
use mathlib.Core.Option.{Option, none, some}
use Rattle.lists.specs.Lists.{gather}
use Rattle.allocation.specs.Cells.{no_number}
use Rattle.numbering.specs.declared.FileNumbers.{FileNumbers}
use Rattle.listing.specs.Text.{decimal, line_feed, at_word}
use Rattle.listing.specs.Listing.{first_line, entry_text}

-- the board number in a cell
unfoldable pub in_cell : ℕ → Option ℕ
in_cell n = elim (eqb n no_number) [ true ↦ none | false ↦ some n ]

-- the entry of timer j, whose cell is the j-th from base on
abbrev pub entry_in : (cells : List ℕ) → (base j : ℕ) → List ℕ
entry_in cells base j = entry_text j (in_cell (get_or cells (base + j) 0))

-- the entries of the timers whose cells begin at base
unfoldable pub entries_in : (cells : List ℕ) → (base timers : ℕ) → List ℕ
entries_in cells base timers = gather (entry_in cells base) timers

-- the line of location q, whose cells begin at 64 q
unfoldable pub line_in : (cells : List ℕ) → (timers q : ℕ) → List ℕ
line_in cells timers q = (at_word ++ decimal q) ++ (entries_in cells (64 * q) timers ++ (line_feed ∷ []))

-- the lines of the locations
unfoldable pub lines_in : (cells : List ℕ) → (timers locations : ℕ) → List ℕ
lines_in cells timers locations = gather (line_in cells timers) locations

-- the text of a chart whose numbers these are
abbrev pub numbers_text : (K : ℕ) → FileNumbers → (cells : List ℕ) → List ℕ
numbers_text k n cells = first_line n.used n.floor n.searched k ++ lines_in cells n.header.timers n.header.locations
