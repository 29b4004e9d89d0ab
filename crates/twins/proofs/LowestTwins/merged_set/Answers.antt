-- `merged_set` meets its contract: each turn brings the lowest twin of the lowest timer that is left. Of which set they are, the loop does not know.
use mathlib.Core.Path.{sym, ◌∙◌}
use Prim.Native.Nat.{◌^◌, ◌<◌}
use native.Mathlib.Omega.{arith}
use Rattle.lists.proofs.Bools.{and_left}
use Rattle.timer_set.proofs.Members.{member_minus, member_removed}
use Rattle.twins.specs.LowestTwins.{lowest_at}
use Rattle.twins.proofs.Merging.{merged_first, merged_more, merged_all, low_small, listed_fewer}
use Rattle.twins.proofs.LowestTwins.merged_set.Goals as goal

pub loop-j-init : goal.loop-j-init
loop-j-init c = (
  rw (c.into_iter-j-iterator.ensures.into_iter_gives, c.minus-j-items.ensures)
      (listed_fewer c.requires.0 _ (λ j m. and_left _ _ (sym (member_minus _ _ j) ∙ m))),
  λ w x. x,
)

pub bounds-self-j : goal.bounds-self-j
bounds-self-j c = c.loop-j.invariant.0.listed _ c.in-Some.ensures.steps.is_member

pub with-merged-requires : goal.with-merged-requires
with-merged-requires c = let t = c.in-Some.ensures.steps in omega (arith, c.loop-j.invariant.0.low _ t.is_member, t.below)

pub loop-j-preserved : goal.loop-j-preserved
loop-j-preserved c =
    let t = c.in-Some.ensures.steps in
    let low = c.loop-j.invariant.0.low _ t.is_member in
    rw (t.left_is, c.with-merged.ensures) (
      listed_fewer c.loop-j.invariant.0 _ (λ j m. and_left _ _ (sym (member_removed _ _ j) ∙ m)),
      λ w x. merged_more _ w _ _ _ t.is_member (omega (arith, low, t.below)) (c.loop-j.invariant.1 w x),
    )

pub returns : goal.returns
returns c =
    let w : c.args.set.bits < 2 ^ 64 = omega arith in
    let f = lowest_at c.args.self.now.lowest.now in
    let first = merged_first f c.args.set.bits w c.args.self.now.own.bits c.requires.1 in
    let start = c.into_iter-j-iterator.ensures.into_iter_gives in
    let last = c.loop-j.invariant.1 c.args.set.bits (rw (start, c.minus-j-items.ensures, c.common-merged.ensures) first) in
    merged_all f c.args.set.bits w (low_small c.requires.0 w) (rw c.in-None.ensures.steps at last)
