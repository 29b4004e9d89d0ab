-- `share_row` meets its contract: the cells of the row from j on are shared, and all others are as they were.
use mathlib.Core.Path.{◌≡◌}
use native.Mathlib.Omega.{arith}
use Rattle.twins.proofs.Sharing.{row_none, row_next}
use Rattle.twins.proofs.LowestTwins.share_row.Goals as goal

pub loop-j-init : goal.loop-j-init
loop-j-init c = row_none _ _ _ _

pub shared_cell-requires : goal.shared_cell-requires
shared_cell-requires c = (c.requires.0, omega (arith, c.loop-j.auto.cells, c.requires.1), omega arith)

pub loop-j-preserved : goal.loop-j-preserved
loop-j-preserved c =
    row_next _ _ _ _ c.requires.0 c.loop-j.invariant (omega arith) (omega arith) (omega (arith, c.loop-j.auto.cells, c.requires.1))
    c.shared_cell.ensures

pub returns : goal.returns
returns c = let e : c.loop-j.j ≡ 0 = omega arith in rw e at c.loop-j.invariant
