-- `visit` goes from each edge to the next that leaves the same location (GoingOver).
use Rattle.std.proofs.Common.{◌<◌, length, refl, arith, rules}
use native.Mathlib.Nat.{le_refl}
use Rattle.worklist.proofs.GoingOver.{going_none, next_later, going_more, going_end}
use Rattle.worklist.proofs.visit.Goals as goal

pub bounds-first-here : goal.bounds-first-here
bounds-first-here c = omega (arith, c.requires.1, c.requires.0.1.room)

pub overflow_cast-i : goal.overflow_cast-i
overflow_cast-i c = omega (arith, (c.type_inv.first c.args.here).fits)

pub loop-i-init : goal.loop-i-init
loop-i-init c = (refl, refl, refl, le_refl _, c.requires.2, (λ from k. going_none k _ c.requires.1))

pub bounds-cut-i : goal.bounds-cut-i
bounds-cut-i c = omega (arith, c.loop-i-test.true, c.requires.0.1.intos, c.requires.0.1.cuts)

pub join_into-top-requires : goal.join_into-top-requires
join_into-top-requires c =
    let v = c.loop-i.invariant in
    (omega (arith, c.requires.0.1.into_below c.loop-i.i c.loop-i-test.true, v.0), rw v.0 v.4)

pub bounds-next-i : goal.bounds-next-i
bounds-next-i c = omega (arith, c.loop-i-test.true, c.requires.0.1.intos, c.requires.0.1.nexts.room)

pub overflow_cast-i-in-loop-i : goal.overflow_cast-i-in-loop-i
overflow_cast-i-in-loop-i c = omega (arith, (c.type_inv.next c.loop-i.i).fits)

pub loop-i-smaller : goal.loop-i-smaller
loop-i-smaller c =
    let k = c.requires.0.1 in
    let below : c.loop-i.i < length c.requires.0.0 = omega (arith, c.loop-i-test.true, k.intos) in
    omega (arith, c.loop-i-test.true, next_later k (c.loop-i.invariant.5 _ k) below)

pub loop-i-preserved : goal.loop-i-preserved
loop-i-preserved c =
    let v = c.loop-i.invariant in
    let e = c.join_into-top.ensures in (
      search rules,
      search rules,
      search rules,
      omega (arith, v.3, e.less),
      (rw v.0 at e.worklist),
      (λ from k.
          let below : c.loop-i.i < length from = omega (arith, c.loop-i-test.true, k.intos) in
          going_more k (v.5 from k) below c.minus-brought.ensures v.0 v.4.idles e.joined),
    )

pub returns : goal.returns
returns c = record {
  over = λ from k. going_end (c.loop-i.invariant.5 from k) (omega (arith, c.loop-i-test.false, k.intos));
  worklist = c.loop-i.invariant.4;
  less = c.loop-i.invariant.3;
}
