-- The judgement that all calls share, 9 and 10, and what the rewriting makes of a chart: 11, 20, or the rewritten chart (document 01, "Turned down
-- .."; document 02, P7).
use Rattle.std.specs.Prelude.{not, ◌||◌, ℕ, leb, length}
use Rattle.model.specs.Answer.{Answer, returned, then, unless, nowhere}
use Rattle.model.specs.Chart.{Chart}
use Rattle.model.specs.Version.{allows_spare}
use Rattle.model.specs.Live.{first_unreached, first_unstarted}
use Rattle.model.specs.Spare.{reached_part}
use Rattle.model.specs.FirstFit.{board, used_by, blocked}
use Rattle.model.specs.Rewrite.{rewritten}

-- 9, below version 3, at the lowest location that no path reaches; then 10 at the lowest transition with an unstarted test
unfoldable pub judged : Chart → Answer Chart
judged c =
    let unreached = first_unreached c in
    let unstarted = first_unstarted c in
    unless (allows_spare c.version || leb c.locations unreached) 9 unreached (
    unless (leb (length c.transitions) unstarted) 10 unstarted (
    returned c))

-- a rewritten chart, and how many board timers it uses
pub record Rewriting : Type 0 where
  pub used : ℕ
  pub chart : Chart

-- 11, then 20, then the chart with the board numbers of first fit
unfoldable pub fitted : (K : ℕ) → Chart → Answer Rewriting
fitted K c =
    let placed = board (reached_part c) in
    unless (leb K 64) 11 nowhere (
    unless (not (blocked K placed)) 20 nowhere (
    returned (record { used = used_by placed; chart = rewritten c })))

-- the judgement first, then the fitting
unfoldable pub rewriting : (K : ℕ) → Chart → Answer Rewriting
rewriting K c = then (judged c) (fitted K)
