-- `write_records` meets its contract: a record a turn. What is hard is that the place of the next record and of its tests depends on those before it
-- (proofs/RecordBytes).
use mathlib.Core.Path.{ap}
use Prim.Native.Nat.{ℕ, ◌+◌}
use native.Mathlib.Omega.{arith}
use Rattle.chart_lists.proofs.Part.{mid_room}
use Rattle.writer.proofs.RecordBytes.{writing_first, writing_done, writing_next, writing_again}
use Rattle.writer.proofs.records.write_records.Goals as goal

pub loop-i-init : goal.loop-i-init
loop-i-init c = writing_first _ _ _ _ _ _ c.requires.room c.requires.fit

pub bounds-lists-i : goal.bounds-lists-i
bounds-lists-i c =
    let n = writing_next _ _ _ _ _ _ c.requires.room c.requires.fit c.loop-i.invariant c.loop-i-test.true in
    n.count

pub bounds-lists-i-in-loop-i-4 : goal.bounds-lists-i-in-loop-i-4
bounds-lists-i-in-loop-i-4 c =
    let n = writing_next _ _ _ _ _ _ c.requires.room c.requires.fit c.loop-i.invariant c.loop-i-test.true in
    n.starts

pub slice_bounds-write_record-start : goal.slice_bounds-write_record-start
slice_bounds-write_record-start c =
    let n = writing_next _ _ _ _ _ _ c.requires.room c.requires.fit c.loop-i.invariant c.loop-i-test.true in
    omega (arith, n.fits)

pub slice_bounds-write_record-count : goal.slice_bounds-write_record-count
slice_bounds-write_record-count c =
    let n = writing_next _ _ _ _ _ _ c.requires.room c.requires.fit c.loop-i.invariant c.loop-i-test.true in
    omega (arith, n.fits)

pub bounds-lists-i-in-loop-i : goal.bounds-lists-i-in-loop-i
bounds-lists-i-in-loop-i c =
    let n = writing_next _ _ _ _ _ _ c.requires.room c.requires.fit c.loop-i.invariant c.loop-i-test.true in
    n.source

pub bounds-lists-i-in-loop-i-2 : goal.bounds-lists-i-in-loop-i-2
bounds-lists-i-in-loop-i-2 c =
    let n = writing_next _ _ _ _ _ _ c.requires.room c.requires.fit c.loop-i.invariant c.loop-i-test.true in
    n.target

pub bounds-lists-i-in-loop-i-3 : goal.bounds-lists-i-in-loop-i-3
bounds-lists-i-in-loop-i-3 c =
    let n = writing_next _ _ _ _ _ _ c.requires.room c.requires.fit c.loop-i.invariant c.loop-i-test.true in
    n.event

pub write_record-at-requires : goal.write_record-at-requires
write_record-at-requires c =
    let n = writing_next _ _ _ _ _ _ c.requires.room c.requires.fit c.loop-i.invariant c.loop-i-test.true in
    record {
      g_bound = (n.few, n.timers_room, n.codes_room, n.constants_room, mid_room c.loop-i.at c.loop-i.out _ n.fits);
      fit_from = n.constants_small;
    }

pub overflow_add-at : goal.overflow_add-at
overflow_add-at c =
    let n = writing_next _ _ _ _ _ _ c.requires.room c.requires.fit c.loop-i.invariant c.loop-i-test.true in
    omega (arith, n.fits, c.write_record-at.ensures.size, c.loop-i.invariant.wrote.long, c.well_formed)

pub overflow_cast-k : goal.overflow_cast-k
overflow_cast-k c =
    let n = writing_next _ _ _ _ _ _ c.requires.room c.requires.fit c.loop-i.invariant c.loop-i-test.true in
    omega (arith, n.few)

pub overflow_add-k : goal.overflow_add-k
overflow_add-k c =
    let n = writing_next _ _ _ _ _ _ c.requires.room c.requires.fit c.loop-i.invariant c.loop-i-test.true in
    omega (arith, n.few, c.loop-i.invariant.few, c.loop-i-test.true)

pub loop-i-preserved : goal.loop-i-preserved
loop-i-preserved c =
    let at = ap (λ (x : ℕ). c.loop-i.at + x) c.write_record-at.ensures.size in
    let e = c.write_record-at.ensures.written in
    writing_again _ _ _ _ _ _ c.requires.room c.requires.fit c.loop-i.invariant c.loop-i-test.true e c.write_record-at.auto.out at

pub shape_of-out : goal.shape_of-out
shape_of-out c = c.loop-i.invariant.wrote.long

pub returns : goal.returns
returns c = writing_done _ _ _ _ _ _ c.requires.room c.requires.fit c.loop-i.invariant c.loop-i-test.false
