-- `conflict` tries the numbers in turn at the family picked, and calls itself for the others.
use Rattle.std.proofs.Common.{◌≡◌, length, rules, arith, sym, ◌∙◌}
use borrow.Author.Tests.{eqb-true, eqb-false}
use Rattle.smallest_plan.proofs.Placing.{removed_less, ready_next, answers_part, tried_none, tried_held, tried_more, tried_all, all_placed}
use Rattle.smallest_plan.proofs.Search.+conflict.Goals as goal
use Rattle.smallest_plan.proofs.Search.+conflict.Goals.{then-not-has+else-takes_nothing, else-not-has}

pub returns-then-is_empty : goal.returns-then-is_empty
returns-then-is_empty t c = all_placed (eqb-true _ _ (sym c.is_empty.ensures ∙ c.if-is_empty.true))

pub loop-c-init : goal.loop-c-init
loop-c-init t c = rw c.with-found.ensures (tried_none _ _ _ _ _ c.pick-v.ensures.1)

pub conflict-part-requires : goal.conflict-part-requires
conflict-part-requires t c =
    let s = c.args.self.now in
    let long : length s.held ≡ 20 = search rules in
    let less = removed_less s.unplaced.bits c.pick-v.result (omega arith) (omega arith) c.pick-v.ensures.1 in
    rw c.give_number.ensures (
      omega arith,
      ready_next c.requires _ c.pick-v.ensures.1 _ (omega arith) (omega arith) (omega arith),
    )

pub returns-then-takes_nothing : goal.returns-then-takes_nothing
returns-then-takes_nothing t c =
    let long : length c.args.self.now.held ≡ 20 = search rules in
    let free = sym c.has.ensures ∙ c.if-not-has.true in
    let A = rw c.give_number.ensures at c.conflict-part.ensures in
    let e = eqb-true _ _ (sym c.takes_nothing.ensures ∙ c.if-takes_nothing.true) in
    answers_part c.requires _ c.pick-v.ensures.1 _ (omega arith) (omega arith) (rw c.against.ensures at free) e A

pub loop-c-preserved : goal.loop-c-preserved
loop-c-preserved t c =
    let T = c.loop-c.invariant in
    let long : length c.args.self.now.held ≡ 20 = search rules in
    elim c.if-not-has.branch [
      | then-not-has+else-takes_nothing w ↦
          let n = eqb-false _ _ (sym w.takes_nothing.ensures ∙ w.if-takes_nothing.false) in
          let A = rw w.give_number.ensures at w.conflict-part.ensures in
          rw (w.found-is, w.join-found.ensures) (tried_more T (omega arith) n A)
      | else-not-has w ↦ rw w.found-is (tried_held T (rw c.against.ensures at (sym c.has.ensures ∙ w.if-not-has.false)))
    ]

pub returns : goal.returns
returns t c = tried_all c.loop-c.invariant c.requires (omega arith)
