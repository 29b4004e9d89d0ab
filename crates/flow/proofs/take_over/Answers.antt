-- `take_over` takes the waiting locations from the end of the list, so that at each turn those left are the ones at which the sets may differ.
use Rattle.std.proofs.Common.{◌≡◌, List, ℕ, ◌+◌, ◌-◌, ◌<◌, length, get_or, length-set, arith}
use Rattle.worklist.proofs.Waiting.{last_below}
use Rattle.flow.specs.Rounds.{Differing}
use Rattle.flow.proofs.Differing.{none_differs, taken_over, filled_back}
use Rattle.flow.proofs.take_over.Goals as goal

-- the last that waits is a location
inside : (sets after idle waiting : List ℕ) (left : ℕ) → Differing sets after idle waiting left → 0 < left
    → get_or waiting (left - 1) 0 < length after
inside sets after idle waiting left d l = last_below d.worklist (left - 1) (omega arith)

pub overflow_cast-q : goal.overflow_cast-q
overflow_cast-q c = omega (arith, inside _ _ _ _ _ c.loop-i.invariant.0 c.loop-i-test.true)

pub bounds-idle-q : goal.bounds-idle-q
bounds-idle-q c =
    let d = c.loop-i.invariant.0 in omega (arith, inside _ _ _ _ _ d c.loop-i-test.true, d.worklist.idles)

pub offset_bounds-after-q : goal.offset_bounds-after-q
offset_bounds-after-q c = omega (arith, inside _ _ _ _ _ c.loop-i.invariant.0 c.loop-i-test.true)

pub bounds-after-q : goal.bounds-after-q
bounds-after-q c = inside _ _ _ _ _ c.loop-i.invariant.0 c.loop-i-test.true

pub offset_bounds-sets-q : goal.offset_bounds-sets-q
offset_bounds-sets-q c = omega (arith, inside _ _ _ _ _ c.loop-i.invariant.0 c.loop-i-test.true)

pub bounds-sets-q : goal.bounds-sets-q
bounds-sets-q c = let d = c.loop-i.invariant.0 in omega (arith, inside _ _ _ _ _ d c.loop-i-test.true, d.long)

pub loop-i-preserved : goal.loop-i-preserved
loop-i-preserved c =
    let v = c.loop-i.invariant in
    let k = c.loop-i.i - 1 in
    let one : c.loop-i.i ≡ k + 1 = omega (arith, c.loop-i-test.true) in
    let h : k < length c.loop-i.changed = omega (arith, one, v.2, v.3, c.requires.1) in (
      taken_over v.0 k one,
      simp length-set v.1,
      simp length-set v.2,
      omega (arith, v.3),
      filled_back c.loop-i.changed c.args.waiting.now k c.args.depth h (λ i b. v.4 i (omega (arith, b, one))),
    )

pub shape_of-idle : goal.shape_of-idle
shape_of-idle c = c.loop-i.invariant.1

pub shape_of-changed : goal.shape_of-changed
shape_of-changed c = c.loop-i.invariant.2

pub returns : goal.returns
returns c =
    let v = c.loop-i.invariant in
    let none : c.loop-i.i ≡ 0 = omega arith in
    record {
      sets = none_differs v.0 none;
      changed = λ k h. v.4 k (omega (arith, none)) h;
      none = rw none at v.0.worklist;
    }
