-- `keep_reached` meets its contract: the kept ones of the first i transitions stand over the fronts of the lists, for whichever chart the lists are
-- of; what a turn may read follows from the one that is given.
use mathlib.Core.Path.{sym, ◌∙◌}
use Prim.Native.Nat.{◌<◌}
use native.Mathlib.Omega.{arith}
use lib.ListN.{length}
use Rattle.chart_lists.specs.Limits.{most_transitions}
use Rattle.chart_lists.proofs.Holds.{targets_each, starts_each}
use Rattle.chart_lists.proofs.InTurn.{nth_transition, source_at, target_at, starts_at}
use Rattle.flow.proofs.ChartFlows.{tested_each}
use Rattle.spare.proofs.Turns.{entry_there, source_there, set_there, leaves_is, tested_at}
use Rattle.spare.proofs.Parts.{part_none, part_skip, part_more, part_all}
use Rattle.spare.proofs.keep_reached.Goals as goal
use Rattle.spare.proofs.keep_reached.Goals.{then-leaves_reached, else-leaves_reached}

pub loop-i-init : goal.loop-i-init
loop-i-init c = (omega arith, λ chart e h t b. part_none chart _)

pub leaves_reached-requires : goal.leaves_reached-requires
leaves_reached-requires c =
    let q = c.requires in
    let below : c.loop-i.i < length q.0.transitions = omega arith in
    (source_there q.2.valid q.2.sources q.4 below, set_there q.2.valid q.2.sources q.4 below)

pub push-requires : goal.push-requires
push-requires c =
    let q = c.requires in
    let below : c.loop-i.i < length q.0.transitions = omega arith in (
      source_there q.2.valid q.2.sources q.4 below,
      entry_there q.0 (targets_each q.0) q.2.targets below,
      entry_there q.0 (starts_each q.0) q.2.starts below,
      entry_there q.0 (tested_each q.0) q.3 below,
      omega (arith, q.2.valid.few_transitions),
    )

pub loop-i-preserved : goal.loop-i-preserved
loop-i-preserved c =
    let v = c.loop-i.invariant in
    elim c.if-leaves_reached.branch [
      | then-leaves_reached w ↦ rw (w.part-is, w.push.ensures) (
        omega arith,
        λ chart e h t b.
            let n = (nth_transition chart c.loop-i.i (omega arith)).1 in
            let room : c.loop-i.part.count < most_transitions = omega (arith, h.valid.few_transitions) in
            part_more (v.1 chart e h t b) n (source_at n h.sources) (target_at n h.targets) (starts_at n h.starts) (tested_at n t)
            (leaves_is h.valid h.sources b n (sym w.if-leaves_reached.true ∙ c.leaves_reached.ensures))
            (omega (arith, room)) (omega (arith, room)) (omega (arith, room)) (omega (arith, room)),
      )
      | else-leaves_reached w ↦ rw w.part-is (
        omega arith,
        λ chart e h t b.
            let n = (nth_transition chart c.loop-i.i (omega arith)).1 in
            part_skip (v.1 chart e h t b) n (leaves_is h.valid h.sources b n (sym w.if-leaves_reached.false ∙ c.leaves_reached.ensures)),
      )
    ]

pub returns : goal.returns
returns c = λ chart e h t b. part_all (c.loop-i.invariant.1 chart e h t b) h.valid (omega arith)
