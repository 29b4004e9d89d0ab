-- `clear_starts` meets its contract: the first i transitions are done, for whichever chart the lists are of; what a turn may read follows from the
-- one that is given.
use mathlib.Core.Path.{sym, ◌∙◌}
use Prim.Native.Nat.{◌<◌}
use native.Mathlib.Omega.{arith}
use lib.ListN.{length}
use Rattle.chart_lists.proofs.Holds.{starts_each, test_counts_each}
use Rattle.chart_lists.proofs.InTurn.{nth_transition, starts_at, test_count_at}
use Rattle.spare.proofs.Turns.{entry_there, source_there, set_there, leaves_is}
use Rattle.spare.proofs.Clearing.{starts_none, starts_spare, starts_reached, starts_all}
use Rattle.spare.proofs.clear_starts.Goals as goal
use Rattle.spare.proofs.clear_starts.Goals.{then-not-leaves_reached, else-not-leaves_reached}

pub loop-i-init : goal.loop-i-init
loop-i-init c = λ chart e b h. starts_none chart _ _

pub leaves_reached-requires : goal.leaves_reached-requires
leaves_reached-requires c =
    let q = c.requires in
    let below : c.loop-i.i < length q.0.transitions = omega arith in
    (source_there q.3.valid q.3.sources q.2 below, set_there q.3.valid q.3.sources q.2 below)

pub bounds-starts-i : goal.bounds-starts-i
bounds-starts-i c =
    let q = c.requires in
    let below : c.loop-i.i < length q.0.transitions = omega arith in
    omega (arith, entry_there q.0 (starts_each q.0) q.3.starts below, c.loop-i.auto.starts)

pub bounds-test_counts-i : goal.bounds-test_counts-i
bounds-test_counts-i c =
    let q = c.requires in
    let below : c.loop-i.i < length q.0.transitions = omega arith in
    omega (arith, entry_there q.0 (test_counts_each q.0) q.3.test_counts below, c.loop-i.auto.test_counts)

pub loop-i-preserved : goal.loop-i-preserved
loop-i-preserved c = λ chart e b h.
    let v = c.loop-i.invariant chart e b h in
    let n = (nth_transition chart c.loop-i.i (omega arith)).1 in
    let counts_there = entry_there chart (test_counts_each chart) h.test_counts (omega arith) in
    let starts_there = entry_there chart (starts_each chart) h.starts (omega arith) in
    elim c.if-not-leaves_reached.branch [
      | then-not-leaves_reached w ↦ rw (w.starts-is, w.test_counts-is) (starts_spare v n starts_there counts_there
          (leaves_is h.valid h.sources b n (sym w.if-not-leaves_reached.true ∙ c.leaves_reached.ensures)))
      | else-not-leaves_reached w ↦ rw (w.starts-is, w.test_counts-is) (starts_reached v n starts_there counts_there
          (leaves_is h.valid h.sources b n (sym w.if-not-leaves_reached.false ∙ c.leaves_reached.ensures)) (starts_at n h.starts)
          (test_count_at n h.test_counts))
    ]

pub returns : goal.returns
returns c = λ chart e b h. starts_all (c.loop-i.invariant chart e b h) (omega arith)
