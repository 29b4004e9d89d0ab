-- `fill_accepting` stores one accepting location after another. The hard part is the room where the list is not known to hold all n of them: the
-- numbers rise, so that k of them and one more are all below the number of locations.
use mathlib.Core.Path.{refl, sym}
use native.Mathlib.Omega.{arith}
use lib.ListN.{drop, length-set}
use Rattle.file_judging.proofs.Loops.{entry_within, accepting_done, accepting_refused}
use Rattle.filling.proofs.Upto.{more, all}
use Rattle.filling.proofs.AcceptingLoop.{filled_first, filled_read, filled_done, filled_never, filled_room, filled_again}
use Rattle.filling.proofs.fill_accepting.Goals as goal

pub loop-k-init : goal.loop-k-init
loop-k-init c = (refl, filled_first c.args.locations c.args.n (drop c.args.at c.args.s.now) _)

pub returns-in_default : goal.returns-in_default
returns-in_default c =
    let m = more c.from-k-end.ensures c.loop-k-test.true in
    let h = sym c.in_default.ensures in
    record {
      read = rw c.in_default.is (accepting_refused (filled_read c.loop-k.invariant.1) m h);
      stored = λ xs t e. absurd (filled_never c.loop-k.invariant.1 m h xs t e);
    }

pub overflow_cast-accepting : goal.overflow_cast-accepting
overflow_cast-accepting c =
    omega (arith, (entry_within _ _ _ _ _ _ (sym c.in-Ok.ensures)).1, c.ranges.locations)

pub offset_bounds-accepting-k : goal.offset_bounds-accepting-k
offset_bounds-accepting-k c =
    omega (arith, (filled_room c.loop-k.invariant.1 (more c.from-k-end.ensures c.loop-k-test.true) (sym c.in-Ok.ensures) c.requires))

pub bounds-accepting-k : goal.bounds-accepting-k
bounds-accepting-k c =
    omega (
      arith,
      (filled_room c.loop-k.invariant.1 (more c.from-k-end.ensures c.loop-k-test.true) (sym c.in-Ok.ensures) c.requires),
      c.loop-k.invariant.0,
    )

pub overflow_add-lowest : goal.overflow_add-lowest
overflow_add-lowest c =
    omega (arith, (entry_within _ _ _ _ _ _ (sym c.in-Ok.ensures)).1, c.ranges.locations)

pub loop-k-preserved : goal.loop-k-preserved
loop-k-preserved c =
    let m = more c.from-k-end.ensures c.loop-k-test.true in
    let h = sym c.in-Ok.ensures in
    (simp length-set c.loop-k.invariant.0, filled_again c.loop-k.invariant.1 m h (filled_room c.loop-k.invariant.1 m h c.requires))

pub returns : goal.returns
returns c =
    let a = all c.from-k-end.ensures c.loop-k-test.false in
    record {
      read = rw c.from.ensures (accepting_done (filled_read c.loop-k.invariant.1) a);
      stored = filled_done c.loop-k.invariant.1 a;
    }
