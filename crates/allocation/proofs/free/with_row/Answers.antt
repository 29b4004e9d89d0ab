-- `with_row` meets its contract: the first i cells of the row are looked at.
use Rattle.timer_set.specs.Members.{member}
use Rattle.allocation.proofs.Rows.{row_none, row_yes, row_no}
use Rattle.allocation.proofs.free.with_row.Goals as goal
use Rattle.allocation.proofs.free.with_row.Goals.{then-number-w, else-number-w}

pub loop-i-init : goal.loop-i-init
loop-i-init c = (c.requires.0, c.requires.1, λ x h. row_none c.args.cells.now c.args.s c.args.w (member c.args.set.bits x) x)

pub loop-i-preserved : goal.loop-i-preserved
loop-i-preserved c = (
  c.requires.0,
  c.requires.1,
  elim c.if-number-w.branch [
    | then-number-w w ↦ λ x h. rw (w.found-is, w.with-found.ensures)
        (row_yes c.args.cells.now c.args.s c.args.w c.loop-i.found.bits c.args.set.bits c.loop-i.i x h (c.loop-i.invariant.2 x h) w.if-number-w.true)
    | else-number-w w ↦ λ x h. rw w.found-is
        (row_no c.args.cells.now c.args.s c.args.w c.loop-i.found.bits c.args.set.bits c.loop-i.i x h (c.loop-i.invariant.2 x h) w.if-number-w.false)
  ],
)
