-- What a rewriting that is not refused returns, and how that behaves.
use Rattle.std.specs.Prelude.{◌≡◌, false, ℕ, ◌≤◌}
use Rattle.model.specs.Answer.{returned}
use Rattle.model.specs.Chart.{Chart}
use Rattle.model.specs.Valid.{Storable}
use Rattle.model.specs.Spare.{reached_part}
use Rattle.model.specs.FirstFit.{board, used_by, blocked}
use Rattle.model.specs.Rewrite.{board_numbering, rewritten}
use Rattle.model.specs.Judge.{Rewriting, judged}
use Rattle.model.specs.Equivalence.{Alike}

-- nothing is refused: 9, 10, 11, 20 in this order, and the result is the chart rewritten by first fit
pub record NotRefused (K : ℕ) (c : Chart) (x : Rewriting) : Type 0 where
  pub accepted : judged c ≡ returned c
  pub limit : K ≤ 64
  pub unblocked : blocked K (board (reached_part c)) ≡ false
  pub used : x.used ≡ used_by (board (reached_part c))
  pub chart : x.chart ≡ rewritten c

-- what the rewriting returns: the rewritten chart, which behaves as the chart, fits the board, and fits a file
pub record RewritingAlike (K : ℕ) (c : Chart) (x : Rewriting) : Type 0 where
  pub chart : x.chart ≡ rewritten c
  pub alike : Alike c x.chart
  pub used : x.used ≡ (board_numbering (reached_part c)).used
  pub fits : x.used ≤ K
  pub limit : K ≤ 64
  pub storable : Storable c → Storable x.chart
