-- `next_round` goes over the edges that leave the changed locations, one location a turn.
use mathlib.Core.Path.{◌≡◌, refl}
use native.Mathlib.Omega.{arith}
use lib.ListN.{length}
use borrow.Author.Rules.{rules}
use Rattle.worklist.proofs.GoingOver.{gone_none}
use Rattle.flow.proofs.NextRound.{over_more}
use Rattle.flow.proofs.next_round.Goals as goal

pub loop-location-init : goal.loop-location-init
loop-location-init c = (refl, refl, refl, (λ from k. gone_none (λ j l a. omega (arith, a.below))), c.requires.3, omega arith)

pub visit-depth-requires : goal.visit-depth-requires
visit-depth-requires c =
    let v = c.loop-location.invariant in
    ((c.requires.0.0, rw v.0 c.requires.0.1), omega (arith, c.requires.2 c.loop-location.location-index, v.0), rw v.0 v.4)

pub loop-location-preserved : goal.loop-location-preserved
loop-location-preserved c =
    let v = c.loop-location.invariant in (
      search rules,
      search rules,
      search rules,
      (λ from k. over_more (v.3 from k) (c.visit-depth.ensures.over from (rw v.0 k))),
      (rw v.0 at c.visit-depth.ensures.worklist),
      omega (arith, v.5, c.visit-depth.ensures.less),
    )

pub returns : goal.returns
returns c =
    let v = c.loop-location.invariant in
    let end : c.loop-location.location-index ≡ length c.args.changed.now = omega arith in
    record { over = λ from k. rw end at (v.3 from k); worklist = v.4; less = v.5 }
