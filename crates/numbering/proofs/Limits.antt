-- 11, then 20, else a chart's board numbers fit, by the numbers of timers that the board has and that the chart uses.
use mathlib.Core.Path.{◌≡◌}
use mathlib.Core.Bool.{false}
use Prim.Native.Nat.{ℕ, ◌≤◌, ◌<◌}
use native.Mathlib.Omega.{arith}
use borrow.Author.Tests.{le-leb, lt-leb}
use Rattle.lists.proofs.Bools.{is_no}
use Rattle.model.specs.Chart.{Chart}
use Rattle.model.specs.Spare.{reached_part}
use Rattle.model.specs.FirstFit.{blocked, board, used}
use Rattle.model.specs.Rewrite.{rewritten}
use Rattle.model.specs.Judge.{fitted}
use Rattle.model.proofs.BoardPlan.{board_blocked}
use Rattle.std.proofs.Common.{Ok, Err}
use Rattle.refusal.specs.declared.TheConstants.{LIMIT_TOO_LARGE, BOARD_TOO_SMALL}
use Rattle.numbering.specs.Limits.{LimitJudged}

module _ (k count : ℕ) where
  pub too_large_lem : 64 < k → LimitJudged k count (Err LIMIT_TOO_LARGE)
  unfolding fitted
  too_large_lem h = record { answer = λ c e. rw (lt-leb k 64 h); fits = λ e. cc }

  module _ (h : k ≤ 64) where
    pub too_small : k < count → LimitJudged k count (Err BOARD_TOO_SMALL)
    unfolding fitted
    too_small l = record { answer = λ c e. rw (le-leb k 64 h, (board_blocked k (reached_part c)).1 (omega arith)); fits = λ e. cc }

    pub enough : count ≤ k → LimitJudged k count (Ok tt)
    unfolding fitted used rewritten
    enough l = record { answer = λ c e. rw (le-leb k 64 h, free c e); fits = λ e. (l, h) }
      where
        free : (c : Chart) → count ≡ used (reached_part c) → blocked k (board (reached_part c)) ≡ false
        free c e = is_no (blocked k (board (reached_part c))) (λ t. omega (arith, (board_blocked k (reached_part c)).0 t))
