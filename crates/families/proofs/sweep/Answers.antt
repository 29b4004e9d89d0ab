-- `sweep` meets its contract: the links that the loop has passed are joined, and if no set has grown, both ends of each of them agree.
use Rattle.std.proofs.Common.{refl, ◌∙◌, arith}
use Rattle.families.proofs.Sweeps.{swept_none, swept_same, swept_grew, empty_past}
use Rattle.families.proofs.sweep.Goals as goal
use Rattle.families.proofs.sweep.Goals.{then-join_ends, else-join_ends}

pub loop-link-init : goal.loop-link-init
loop-link-init c = (refl, swept_none _ c.args.sets.now, c.requires.1)

pub loop-link-preserved : goal.loop-link-preserved
loop-link-preserved c =
    let v = c.loop-link.invariant in elim c.if-join_ends.branch [
      | then-join_ends w ↦ rw w.grown-is (
        c.join_ends.auto.sets ∙ v.0,
        swept_grew _ c.loop-link-test.true v.1 c.join_ends.ensures w.if-join_ends.true,
        empty_past _ _ _ v.2 (c.join_ends.ensures.grew w.if-join_ends.true).0 (rw w.unwrap_or.ensures at w.past.ensures)
            (omega (arith, c.requires.0.one_below c.loop-link.link-index c.loop-link-test.true, v.0))
            (omega (arith, c.requires.0.other_below c.loop-link.link-index c.loop-link-test.true, v.0)),
      )
      | else-join_ends w ↦ rw w.grown-is (
        c.join_ends.auto.sets ∙ v.0,
        swept_same _ c.loop-link-test.true v.1 c.join_ends.ensures w.if-join_ends.false,
        rw (c.join_ends.ensures.same w.if-join_ends.false).0 v.2,
      )
    ]
