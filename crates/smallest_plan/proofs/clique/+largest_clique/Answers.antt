-- `largest_clique` takes each candidate left in turn, and calls itself for those that it meets.
use Rattle.std.proofs.Common.{◌≡◌, true, List, ℕ, ◌-◌, ◌+◌, ◌<◌, ◌^◌, get_or, arith, ap, ◌∙◌}
use lib.Count.{ones}
use Rattle.timer_set.specs.Members.{member, common, lowest_member, removed}
use Rattle.timer_set.proofs.LowestMember.{lowest_member_lem, without_less}
use Rattle.smallest_plan.specs.Cliques.{NumbersNeeded}
use Rattle.smallest_plan.proofs.Placing.{removed_in}
use Rattle.smallest_plan.proofs.Cliques.{candidates_part, few, given, common_in, common_less, one_more}
use Rattle.smallest_plan.proofs.clique.+largest_clique.Goals as goal

-- some candidate is left in a turn, and the lowest of them is one
some_left : (w b n : ℕ) → n ≡ ones w → b < n → w ≡ 0 → ⊥
unfolding ones
some_left w b n e l z = let q : n ≡ 0 = e ∙ ap ones z in omega arith

taken : (w b n v : ℕ) → w < 2 ^ 64 → n ≡ ones w → b < n → v ≡ lowest_member w → member w v ≡ true
taken w b n v h e l q = rw q (lowest_member_lem w h (some_left w b n e l))

-- without it fewer are left
fewer : (w b n r : ℕ) → w < 2 ^ 64 → n ≡ ones w → b < n → r ≡ removed w (lowest_member w) → r < w
fewer w b n r h e l q = rw q (without_less w h (some_left w b n e l))

-- the sum is a bound again
next : (rows : List ℕ) (left v w least best met r : ℕ) → member left v ≡ true → ((i : ℕ) → member left i ≡ true → member w i ≡ true)
    → NumbersNeeded rows w least best → met ≡ common left (get_or rows v 0) → NumbersNeeded rows met (best - 1) r
    → NumbersNeeded rows w least (r + 1)
next rows left v w least best met r m s A e B = one_more rows left v m s A (rw e at B)

pub loop-best-init : goal.loop-best-init
loop-best-init t c = (omega arith, λ i m. m, given _ _ _)

pub bounds-rows-v : goal.bounds-rows-v
bounds-rows-v t c =
    let m = taken _ _ _ _ (omega arith) c.count.ensures c.loop-best-test.true c.lowest-v.ensures in
    (candidates_part c.loop-best.invariant.1 c.requires.1).below _ m

pub largest_clique-best-requires : goal.largest_clique-best-requires
largest_clique-best-requires t c =
    let v = c.loop-best.invariant in
    let C = candidates_part v.1 c.requires.1 in
    let m = taken _ _ _ _ (omega arith) c.count.ensures c.loop-best-test.true c.lowest-v.ensures in (
      omega (arith, c.requires.0, v.0, c.common.ensures, common_less _ _ _ m (C.other _ m)),
      (omega (arith, few c.requires.1 v.2 c.requires.0), rw c.common.ensures (candidates_part (common_in _ _) C)),
    )

pub overflow_add-best : goal.overflow_add-best
overflow_add-best t c =
    let v = c.loop-best.invariant in
    let m = taken _ _ _ _ (omega arith) c.count.ensures c.loop-best-test.true c.lowest-v.ensures in
    let N = next _ _ _ _ _ _ _ _ m v.1 v.2 c.common.ensures (rw c.saturating_sub.ensures at c.largest_clique-best.ensures) in
    omega (arith, few c.requires.1 N c.requires.0)

pub loop-best-smaller : goal.loop-best-smaller
loop-best-smaller t c = fewer _ _ _ _ (omega arith) c.count.ensures c.loop-best-test.true c.without_lowest-left.ensures

pub loop-best-preserved : goal.loop-best-preserved
loop-best-preserved t c =
    let v = c.loop-best.invariant in
    let m = taken _ _ _ _ (omega arith) c.count.ensures c.loop-best-test.true c.lowest-v.ensures in (
      omega (arith, fewer _ _ _ _ (omega arith) c.count.ensures c.loop-best-test.true c.without_lowest-left.ensures, v.0),
      λ i m. v.1 i (removed_in _ _ i (rw c.without_lowest-left.ensures at m)),
      next _ _ _ _ _ _ _ _ m v.1 v.2 c.common.ensures (rw c.saturating_sub.ensures at c.largest_clique-best.ensures),
    )

pub returns : goal.returns
returns t c = c.loop-best.invariant.2
