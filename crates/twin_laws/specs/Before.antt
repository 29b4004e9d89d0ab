-- The results as they were formed before twins counted as one timer (document 02, P6), when each timer counted for itself; and the charts that still
-- have them. Spare locations (P7) are passed over as they are now: the results of a chart are those of its part that counts. Assumes nothing.
use Rattle.std.specs.Prelude.{◌≡◌, Bool, true, false, not, List, ℕ, ◌≤◌, ◌<◌, leb, length}
use Rattle.model.specs.Answer.{Answer, returned, unless, nowhere}
use Rattle.model.specs.Chart.{Chart}
use Rattle.model.specs.Path.{Live}
use Rattle.model.specs.Live.{live_sets, fullest}
use Rattle.model.specs.Spare.{reached_part, spare_cleared}
use Rattle.model.specs.Twins.{Twins}
use Rattle.model.specs.Family.{Pairs, pairs_with, families}
use Rattle.model.specs.FirstFit.{Placed, first_fit, used_by, blocked, board}
use Rattle.model.specs.SmallestPlan.{fewest}
use Rattle.model.specs.Floor.{most_searched, searched, floor}
use Rattle.model.specs.Rewrite.{numbering, rewritten_by, board_numbering}
use Rattle.model.specs.Judge.{Rewriting}

-- the pairs: the live timers of each location
unfoldable pub pairs_before : Chart → Pairs
pairs_before c = let live = live_sets c in pairs_with c live

-- their board numbers
unfoldable pub board_before : Chart → List Placed
board_before c = first_fit (pairs_before c)

-- whether there are few enough families for the smallest plan
unfoldable pub searched_before : Chart → Bool
searched_before c = leb (length (families (pairs_before c))) most_searched

-- the floor
unfoldable pub floor_before : Chart → ℕ
floor_before c = elim (searched_before c) [ true ↦ fewest (families (pairs_before c)) | false ↦ fullest (live_sets c) ]

-- 11, then 20, then the rewritten chart: by the numbers of the part that counts, and without tests and starts on transitions that leave a spare
-- location
unfoldable pub fitted_before : (K : ℕ) → Chart → Answer Rewriting
fitted_before K c =
    let placed = board_before (reached_part c) in
    unless (leb K 64) 11 nowhere (
    unless (not (blocked K placed)) 20 nowhere (
    returned (record { used = used_by placed; chart = rewritten_by (numbering placed) (spare_cleared c) })))

-- the placed families of a chart, and its numbers and floor that are formed of them, are as they were
pub record SameAsBefore (c : Chart) : Type 0 where
  pub same_board : board c ≡ board_before c
  pub same_numbering : board_numbering c ≡ numbering (board_before c)
  pub same_searched : searched c ≡ searched_before c
  pub same_floor : floor c ≡ floor_before c

-- no two timers are twins
abbrev pub NoTwins : Chart → Type 0
NoTwins c = (j k : ℕ) → j < c.timers → k < c.timers → Twins c j k → j ≡ k

-- no timer that is live somewhere has a lower twin; the twin need not be live. Exactly such charts have the families of before, with their numbers
-- and floor (`same_as_before`, `same_only` in proofs/Before); and if the part that counts of a chart is such a one, the rewriting answers as before
-- for every K (`fitted_as_before`)
abbrev pub NoLowerTwin : Chart → Type 0
NoLowerTwin c = (q j k : ℕ) → Live c q j → Twins c j k → j ≤ k
