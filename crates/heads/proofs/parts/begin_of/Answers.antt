-- `begin_of` goes from the end of one part to the end of the next, each cut where the list ends.
use native.Mathlib.Omega.{arith}
use Rattle.lists.specs.Lists.{sum_of}
use Rattle.controller_model.specs.Parts.{offset}
use Rattle.controller_model.proofs.ListParts.{offset_next}
use Rattle.heads.proofs.parts.begin_of.Goals as goal

pub loop-g-init : goal.loop-g-init
unfolding offset sum_of
loop-g-init c = omega arith

pub loop-g-preserved : goal.loop-g-preserved
loop-g-preserved c = omega (arith, c.end_of-at.ensures, offset_next c.args.lengths c.loop-g.g)
