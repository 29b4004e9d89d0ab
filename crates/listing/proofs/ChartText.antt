-- The text that is made of a chart's cells is the text of the chart. What is hard is only that the cells stand at the front of a longer list, and
-- that no number that is given is the one that marks a cell with none.
use mathlib.Core.Path.{◌≡◌, refl, ap, ◌∙◌}
use mathlib.Core.Bool.{Bool}
use mathlib.Core.Option.{Option, none, some}
use mathlib.Core.List.{List, [], ◌∷◌, ◌++◌, append_assoc}
use Prim.Native.Nat.{ℕ, ◌+◌, ◌*◌, ◌≤◌, ◌<◌}
use native.Mathlib.Omega.{arith}
use lib.ListN.{length, get_or}
use Rattle.lists.specs.Lists.{gather}
use Rattle.lists.proofs.Flatten.{gather_same}
use Rattle.model.specs.Chart.{Chart}
use Rattle.model.specs.Valid.{Valid}
use Rattle.model.specs.Spare.{reached_part}
use Rattle.model.specs.FirstFit.{used}
use Rattle.model.specs.Floor.{floor, searched}
use Rattle.model.specs.Rewrite.{Numbering, numbering, through, board_numbering}
use Rattle.chart_lists.specs.Limits.{most_timers}
use Rattle.chart_lists.specs.Begins.{Begins}
use Rattle.chart_lists.proofs.Begins.{begins_get_d, begins_room}
use Rattle.allocation.specs.Cells.{most_cells, cell, cells_of}
use Rattle.allocation.proofs.CellList.{cells_length, cells_at}
use Rattle.chart_lists.proofs.Fronts.{locations_are, timers_are}
use Rattle.numbering.specs.declared.FileNumbers.{FileNumbers}
use Rattle.numbering.specs.FileNumbers.{file_numbers}
use Rattle.listing.specs.Text.{decimal, line_feed, at_word}
use Rattle.listing.specs.Listing.{largest_text, entry_text, first_line, line_of, chart_text}
use Rattle.listing.specs.Cells.{in_cell, entry_in, entries_in, line_in, lines_in, numbers_text}
use Rattle.listing.proofs.Cells.{no_number_lem, a_number}
use Rattle.listing.proofs.Fits.{board_few, chart_fits}

-- a number that is given is below the number that marks a cell with none
in_cell_lem : (o : Option ℕ) → ((k : ℕ) → o ≡ some k → k < 64) → in_cell (cell o) ≡ o
in_cell_lem none h = no_number_lem _ refl
in_cell_lem (some k) h = a_number k (λ e. omega (arith, h k refl))

module _ (N : Numbering) (few : (q j k : ℕ) → N.number q j ≡ some k → k < 64) (timers locations : ℕ) (narrow : timers ≤ 64)
    {l : List ℕ} (b : Begins (cells_of N locations) l) where
  cell_is : (q j : ℕ) → q < locations → j < timers → get_or l (64 * q + j) 0 ≡ cell (N.number q j)
  cell_is q j h k = begins_get_d b (64 * q + j) 0 (omega (arith, cells_length N locations)) ∙ cells_at N locations q j h (omega arith)

  entry_is : (q j : ℕ) → q < locations → j < timers → entry_in l (64 * q) j ≡ entry_text j (N.number q j)
  entry_is q j h k =
      ap (λ (x : ℕ). entry_text j (in_cell x)) (cell_is q j h k) ∙ ap (entry_text j) (in_cell_lem (N.number q j) (few q j))

  line_is : (q : ℕ) → q < locations → line_in l timers q ≡ line_of timers N q
  unfolding line_in line_of entries_in
  line_is q h =
      append_assoc at_word (decimal q) _
      ∙ ap (λ (es : List ℕ). at_word ++ (decimal q ++ (es ++ (line_feed ∷ []))))
      (gather_same (entry_in l (64 * q)) (λ j. entry_text j (N.number q j)) timers (λ j k. entry_is q j h k))

  lines_are : lines_in l timers locations ≡ gather (line_of timers N) locations
  unfolding lines_in
  lines_are = gather_same (line_in l timers) (line_of timers N) locations line_is

-- the numbers are those of the part that counts
module _ {W : ℕ} {c : Chart} (v : Valid W c) (few : used (reached_part c) ≤ 64) {l : List ℕ}
    (b : Begins (cells_of (board_numbering (reached_part c)) c.locations) l) {x : FileNumbers} (e : x ≡ file_numbers c) where
  locations_of : x.header.locations ≡ c.locations
  unfolding file_numbers
  locations_of = ap (λ (y : FileNumbers). y.header.locations) e ∙ locations_are c refl

  timers_of : x.header.timers ≡ c.timers
  unfolding file_numbers
  timers_of = ap (λ (y : FileNumbers). y.header.timers) e ∙ timers_are c refl

  pub text_is : (K : ℕ) → numbers_text K x l ≡ chart_text K c
  unfolding chart_text file_numbers used board_numbering through numbering
  text_is K =
      let part = reached_part c in
      let line = ap (λ (y : FileNumbers). first_line y.used y.floor y.searched K) e in
      rw (timers_of, locations_of, line)
      (ap (λ (y : List ℕ). first_line (used part) (floor part) (searched part) K ++ y)
      (lines_are (board_numbering part) (board_few part few) c.timers c.locations v.few_timers b))

  -- what the code that puts it asks for
  pub text_asks : (K room : ℕ) → largest_text ≤ room → length l ≤ most_cells
      → (64 * x.header.locations ≤ length l) × (length l ≤ most_cells) × (x.header.timers ≤ most_timers)
      × (length (numbers_text K x l) ≤ room)
  text_asks K room r n = (
    omega (arith, locations_of, begins_room b, cells_length (board_numbering (reached_part c)) c.locations),
    n,
    omega (arith, timers_of, v.few_timers),
    rw (text_is K) (omega (arith, chart_fits v few K)),
  )
