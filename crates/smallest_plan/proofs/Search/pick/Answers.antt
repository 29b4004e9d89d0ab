-- `pick` goes over the unplaced families, each of which may be the one.
use Rattle.std.proofs.Common.{◌≡◌, true, arith}
use Rattle.timer_set.specs.Members.{member}
use Rattle.timer_set.proofs.LowestMember.{lowest_member_lem}
use Rattle.smallest_plan.proofs.Placing.{removed_in, word_of_families}
use Rattle.smallest_plan.proofs.Search.pick.Goals as goal

-- the lowest unplaced family is one
first : (c : goal.After-lowest-best) → member c.args.self.now.unplaced.bits c.lowest-best.result ≡ true
first c = rw c.lowest-best.ensures (lowest_member_lem _ (word_of_families _ c.requires.2) c.requires.1)

pub overflow_cast-best : goal.overflow_cast-best
overflow_cast-best c = omega (arith, c.requires.2 _ (first c))

pub loop-v-init : goal.loop-v-init
loop-v-init c =
    rw c.into_iter-v-iterator.ensures.into_iter_gives
    (λ i m. m, rw c.lowest-best.ensures (lowest_member_lem _ (word_of_families _ c.requires.2) c.requires.1))

pub score-s-requires : goal.score-s-requires
score-s-requires c = (c.requires.0, c.requires.2 _ (c.loop-v.invariant.0 _ c.in-Some.ensures.steps.is_member))

pub loop-v-preserved-then-most-s : goal.loop-v-preserved-then-most-s
loop-v-preserved-then-most-s c =
    let t = c.in-Some.ensures.steps in
    (λ i m. c.loop-v.invariant.0 i (removed_in _ _ i (rw t.left_is at m)), c.loop-v.invariant.0 _ t.is_member)

pub loop-v-preserved : goal.loop-v-preserved
loop-v-preserved c = (λ i m. c.loop-v.invariant.0 i (removed_in _ _ i (rw c.in-Some.ensures.steps.left_is at m)), c.loop-v.invariant.1)

pub returns : goal.returns
returns c = (c.requires.2 _ c.loop-v.invariant.1, c.loop-v.invariant.1)
