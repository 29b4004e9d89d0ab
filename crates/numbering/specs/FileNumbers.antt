-- What the numbering of a chart file answers and leaves.
use Rattle.std.specs.Prelude.{List, ℕ}
use Rattle.model.specs.Answer.{Answer, returned, then}
use Rattle.model.specs.Chart.{Chart}
use Rattle.model.specs.Valid.{Valid}
use Rattle.model.specs.Live.{live_sets, live_rounds}
use Rattle.model.specs.Spare.{reached_part}
use Rattle.model.specs.FirstFit.{used}
use Rattle.model.specs.Floor.{floor, searched}
use Rattle.model.specs.Rewrite.{board_numbering}
use Rattle.chart_lists.specs.Header.{header_of}
use Rattle.chart_lists.specs.declared.Header.{Header}
use Rattle.chart_lists.specs.Begins.{Begins}
use Rattle.judgement.specs.Judging.{judged_in}
use Rattle.allocation.specs.Cells.{cells_of}
use Rattle.numbering.specs.declared.FileNumbers.{FileNumbers}

-- the header of a chart; of the part that counts how many board timers it uses, its floor, whether that is the fewest timers of any plan, and how
-- many rounds find its live sets
unfoldable pub file_numbers : Chart → FileNumbers
file_numbers c = let part = reached_part c in
    record { header = header_of c; used = used part; floor = floor part; searched = searched part; rounds = live_rounds part }

-- 1 to 10, else these of the file's chart
unfoldable pub numbered_in : List ℕ → Answer FileNumbers
numbered_in bs = then (judged_in bs) (λ c. returned (file_numbers c))

-- a chart that a file can hold; the lists begin with its live sets and with the cells of its board numbers, those of the part that counts
pub record ListsNumbered (c : Chart) (live cells : List ℕ) : Type 0 where
  pub width : ℕ
  pub valid : Valid width c
  pub live_are : Begins (live_sets (reached_part c)) live
  pub cells_are : Begins (cells_of (board_numbering (reached_part c)) c.locations) cells
