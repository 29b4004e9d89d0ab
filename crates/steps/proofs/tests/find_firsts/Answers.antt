-- `find_firsts` stores the number of the tests so far, one transition a turn. No sum passes 4,096.
use mathlib.Core.Path.{refl}
use native.Mathlib.Omega.{arith}
use lib.ListN.{length-set}
use Rattle.steps.proofs.FirstPlaces.{found_none, counts_room, sum_fits, found_more, found_all, found_number}
use Rattle.steps.proofs.tests.find_firsts.Goals as goal

pub loop-i-init : goal.loop-i-init
loop-i-init c = (c.requires.n_value, refl, c.requires.n_in_bounds, λ ch e h. found_none ch _)

pub bounds-test_counts-i : goal.bounds-test_counts-i
bounds-test_counts-i c =
    let p = c.loop-i.invariant.0 in
    omega (arith, p.1, counts_room p.2 (c.loop-i.invariant.3 p.0 p.1 p.2))

pub overflow_add-sum : goal.overflow_add-sum
overflow_add-sum c =
    let p = c.loop-i.invariant.0 in
    omega (arith, sum_fits p.2 (c.loop-i.invariant.3 p.0 p.1 p.2) (omega (arith, p.1)))

pub loop-i-preserved : goal.loop-i-preserved
loop-i-preserved c = (
  c.loop-i.invariant.0,
  simp length-set c.loop-i.invariant.1,
  c.loop-i.invariant.2,
  λ ch e h. rw c.from-sum.ensures (found_more h (c.loop-i.invariant.3 ch e h) (omega arith) (omega arith)),
)

pub returns : goal.returns
returns c = record {
  places = λ ch e h. found_all (c.loop-i.invariant.3 ch e h) e (omega arith) (omega arith);
  number = λ ch e h. found_number (c.loop-i.invariant.3 ch e h) e (omega arith);
}
