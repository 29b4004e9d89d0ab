-- First fit's numbers of a chart that is judged: they are a plan, and their cells are what the renaming asks for.
use mathlib.Core.Path.{◌≡◌, sym, ◌∙◌}
use mathlib.Core.List.{List}
use Prim.Native.Nat.{ℕ, ◌≤◌}
use native.Mathlib.Omega.{arith}
use Rattle.model.specs.Answer.{returned}
use Rattle.model.specs.Chart.{Chart}
use Rattle.model.specs.Valid.{Storable}
use Rattle.model.specs.Spare.{reached_part, spare_cleared}
use Rattle.model.specs.FirstFit.{used}
use Rattle.model.specs.Rewrite.{rewritten_by, board_numbering}
use Rattle.model.specs.Plan.{Plan}
use Rattle.model.specs.Judge.{judged}
use Rattle.model.proofs.BoardPlan.{numbering_used}
use Rattle.model.proofs.SameReached.{plan_there}
use Rattle.model.proofs.SpareCleared.{cleared_same, cleared_numbered, cleared_storable}
use Rattle.model.proofs.EqualAnswers.{judged_plan}
use Rattle.model.proofs.RewrittenValid.{rewritten_storable}
use Rattle.renaming.specs.Renaming.{CellsOf}
use Rattle.numbering.specs.declared.Numbered.{Numbered as Count}
use Rattle.numbering.specs.ChartNumbered.{ChartNumbered}

module _ {c : Chart} (storable : Storable c) (e : judged c ≡ returned c) where
  plan : Plan c (board_numbering (reached_part c))
  plan = judged_plan storable.valid e

  module _ {live merged cells at : List ℕ} {r : Count} (x : ChartNumbered (reached_part c) live merged cells at r) where
    pub board_used : r.used ≡ (board_numbering (reached_part c)).used
    unfolding used
    board_used = x.used_is ∙ sym (numbering_used (reached_part c))

    -- where the numbers fit a board
    module _ (few : r.used ≤ 64) where
      pub board_cells : CellsOf (spare_cleared c) (board_numbering (reached_part c)) cells
      board_cells = record {
        cells_are = unfold reached_part spare_cleared in x.cells_are;
        few = omega (arith, board_used, few);
        below = plan.below;
        numbered = cleared_numbered storable.valid plan;
      }

      pub board_storable : Storable (rewritten_by (board_numbering (reached_part c)) (spare_cleared c))
      board_storable =
          rewritten_storable (spare_cleared c) (board_numbering (reached_part c)) (plan_there (cleared_same storable.valid) plan)
          (cleared_storable storable) (omega (arith, board_used, few))
