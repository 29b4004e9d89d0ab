-- `share_numbers` meets its contract: the rows below q are shared, and the others are as they were.
use mathlib.Core.Path.{sym, ◌∙◌}
use native.Mathlib.Omega.{arith}
use borrow.Author.Tests.{eqb-true}
use Rattle.twins.proofs.Sharing.{shared_none, shared_kept, shared_row, shared_all}
use Rattle.twins.proofs.LowestTwins.share_numbers.Goals as goal
use Rattle.twins.proofs.LowestTwins.share_numbers.Goals.{then-not-is_empty, else-not-is_empty}

pub loop-q-init : goal.loop-q-init
loop-q-init c = shared_none _ _ _

pub share_row-requires : goal.share_row-requires
share_row-requires c = (c.requires.0.each c.loop-q.q (omega arith), omega (arith, c.loop-q.auto.cells, c.requires.1))

pub loop-q-preserved : goal.loop-q-preserved
loop-q-preserved c = elim c.if-not-is_empty.branch [
  | then-not-is_empty w ↦ rw w.cells-is (shared_row _ _ _ c.requires.0 (omega arith) c.loop-q.invariant w.share_row.ensures)
  | else-not-is_empty w ↦
      let word = c.type_inv.live c.loop-q.q in
      let none = sym c.minus.ensures ∙ eqb-true _ _ (sym c.is_empty.ensures ∙ w.if-not-is_empty.false) in
      rw w.cells-is (shared_kept _ _ _ c.requires.0 (omega arith) c.loop-q.invariant (omega arith) none)
]

pub returns : goal.returns
returns c = shared_all _ _ _ c.loop-q.invariant (omega arith) (c.loop-q.auto.cells ∙ c.requires.1)
