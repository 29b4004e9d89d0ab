-- `rename_row` meets its contract: the first k timers are renamed.
use mathlib.Core.Path.{refl}
use native.Mathlib.Omega.{arith}
use Rattle.renaming.specs.Renaming.{renamed_row}
use Rattle.renaming.proofs.Timers.{row_more}
use Rattle.renaming.proofs.rename_row.Goals as goal

pub loop-k-init : goal.loop-k-init
unfolding renamed_row
loop-k-init c = refl

pub loop-k-preserved : goal.loop-k-preserved
loop-k-preserved c =
    rw c.board_timer.ensures
    (row_more c.args.cells.now c.args.q c.args.timers.now c.loop-k.renamed c.loop-k.k (omega arith) (omega arith) c.loop-k.invariant)
