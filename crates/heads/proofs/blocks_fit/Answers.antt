-- `blocks_fit` counts down what is left of the board, block after block.
use native.Mathlib.Omega.{arith}
use borrow.Author.Count.{below_more, below_none}
use Rattle.lists.specs.Lists.{sum_of}
use Rattle.controller_model.specs.Parts.{offset}
use Rattle.controller_model.proofs.ListParts.{offset_next}
use Rattle.heads.proofs.Blocks.{blocks_fit_lem, short_block, no_room}
use Rattle.heads.proofs.blocks_fit.Goals as goal
use Rattle.heads.proofs.blocks_fit.Goals.{then-block-from-via-then-block-from, then-block-from-via-else-block-from+then-block-rest}

pub loop-h-init : goal.loop-h-init
unfolding offset sum_of
loop-h-init c = (omega arith, below_none _)

pub returns-then-block-from : goal.returns-then-block-from
returns-then-block-from c = λ cs e are.
    elim c.then-block-from.branch [
      | then-block-from-via-then-block-from w ↦
          short_block _ _ are c.loop-h.h (omega (arith, e)) (omega (arith, c.from.ensures, w.if-block-from.true))
      | then-block-from-via-else-block-from+then-block-rest w ↦
          no_room _ _ cs c.loop-h.h c.loop-h.invariant.0 (omega (arith, e)) w.if-block-rest.true
    ]

pub loop-h-preserved : goal.loop-h-preserved
loop-h-preserved c = (
  omega (arith, offset_next c.args.blocks c.loop-h.h),
  below_more _ c.loop-h.h c.loop-h.invariant.1 (omega (arith, c.from.ensures)),
)

pub returns : goal.returns
returns c = λ cs e are. blocks_fit_lem _ _ are c.loop-h.h (omega (arith, c.loop-h.invariant.0)) (omega (arith, e)) c.loop-h.invariant.1
