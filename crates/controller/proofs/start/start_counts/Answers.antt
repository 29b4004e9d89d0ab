-- `start_counts` writes the counts of one head after another.
use mathlib.Core.Path.{◌≡◌, refl}
use native.Mathlib.Omega.{arith}
use Rattle.controller_model.specs.Controlling.{start_counts}
use Rattle.controller.proofs.StartCounts.{counts_on_board, next_counts}
use Rattle.controller.proofs.start.start_counts.Goals as goal

pub loop-h-init : goal.loop-h-init
unfolding start_counts
loop-h-init c = refl

pub write_counts-requires : goal.write_counts-requires
write_counts-requires c = counts_on_board c.requires.counts_fit c.loop-h.h (omega arith) c.begin_of.ensures c.part_of-part.ensures

pub loop-h-preserved : goal.loop-h-preserved
loop-h-preserved c =
    let next = next_counts c.requires.counts_fit c.loop-h.h (omega arith) c.begin_of.ensures c.part_of-part.ensures in
    next c.loop-h.invariant c.write_counts.ensures

pub returns : goal.returns
returns c =
    let e : c.loop-h.h ≡ c.args.n = omega arith in
    rw e at c.loop-h.invariant
