-- `empty_list` takes the last location of the list and goes over its transitions, until none waits. Each turn takes one location from the list, and
-- each location that it puts there has a set that has grown: so the sum of what is missing from the sets and of what waits falls.
use Rattle.std.proofs.Common.{◌≡◌, List, ℕ, ◌-◌, ◌<◌, length, get_or, length-set, refl, ◌∙◌, arith, rules}
use Rattle.lists.proofs.Sums.{sum_small}
use Rattle.worklist.specs.Worklist.{Worklist}
use Rattle.worklist.proofs.Waiting.{last_below}
use Rattle.forward.proofs.Visiting.{last_taken, between_again}
use Rattle.forward.proofs.Ending.{all_settled}
use Rattle.forward.proofs.empty_list.Goals as goal

-- the last that waits is a location
location : (m : ℕ) (idle waiting : List ℕ) (left : ℕ) → Worklist m idle waiting left → 0 < left → get_or waiting (left - 1) 0 < m
location m idle waiting left w l = last_below w (left - 1) (omega arith)

pub loop-left-init : goal.loop-left-init
loop-left-init c = (refl, refl, refl, (λ q. (c.type_inv.sets q).fits), (λ initial sources t. t))

pub offset_bounds-waiting-left : goal.offset_bounds-waiting-left
offset_bounds-waiting-left c =
    let room = (c.loop-left.invariant.4 _ _ c.requires.2).working.worklist.room in
    let h : c.loop-left.left - 1 < length c.loop-left.waiting = omega (arith, c.loop-left-test.true, room) in
    search rules

pub bounds-waiting-left : goal.bounds-waiting-left
bounds-waiting-left c =
    omega (arith, c.loop-left-test.true, (c.loop-left.invariant.4 _ _ c.requires.2).working.worklist.room)

pub overflow_cast-q : goal.overflow_cast-q
overflow_cast-q c = omega (arith, (c.type_inv.waiting (c.loop-left.left - 1)).fits)

pub bounds-idle-q : goal.bounds-idle-q
bounds-idle-q c =
    let w = (c.loop-left.invariant.4 _ _ c.requires.2).working.worklist in
    omega (arith, location _ _ _ _ w c.loop-left-test.true, w.idles)

pub offset_bounds-sets-q : goal.offset_bounds-sets-q
offset_bounds-sets-q c = omega (arith, (c.type_inv.waiting (c.loop-left.left - 1)).fits)

pub bounds-sets-q : goal.bounds-sets-q
bounds-sets-q c =
    let w = (c.loop-left.invariant.4 _ _ c.requires.2).working.worklist in
    omega (arith, location _ _ _ _ w c.loop-left-test.true, c.loop-left.invariant.0)

pub visit-left-requires : goal.visit-left-requires
visit-left-requires c =
    let v = c.loop-left.invariant in
    let t = v.4 _ _ c.requires.2 in (
      (c.requires.1, rw v.0 t.adjacency),
      omega (arith, location _ _ _ _ t.working.worklist c.loop-left-test.true, v.0),
      rw v.0 (last_taken t (c.loop-left.left - 1) (omega (arith, c.loop-left-test.true))),
    )

pub loop-left-smaller : goal.loop-left-smaller
loop-left-smaller c =
    let long : length c.visit-left.new.sets ≡ length c.loop-left.sets = search rules in
    let small = sum_small c.visit-left.new.sets (λ q. (c.type_inv.sets q).fits) in
    omega (arith, c.loop-left-test.true, c.visit-left.ensures.less, c.loop-left.invariant.0, small, long)

pub loop-left-preserved : goal.loop-left-preserved
loop-left-preserved c =
    let v = c.loop-left.invariant in
    let k = c.loop-left.left - 1 in
    let idle_long = length-set c.loop-left.idle (get_or c.loop-left.waiting k 0) 1 ∙ v.1 in
    let e = c.visit-left.ensures in (
      search rules,
      search rules,
      search rules,
      (λ q. (c.type_inv.sets q).fits),
      (λ initial sources t.
          let b = v.4 initial sources t in
          between_again b k (omega (arith, c.loop-left-test.true)) (e.over sources (rw v.0 b.adjacency)) (rw v.0 at e.worklist)),
    )

pub returns : goal.returns
returns c = λ initial sources t.
    let b = c.loop-left.invariant.4 initial sources t in
    all_settled b.safe b.working (omega (arith, c.loop-left-test.false)) c.loop-left.invariant.3
