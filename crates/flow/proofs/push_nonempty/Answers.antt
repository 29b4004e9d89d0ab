-- `push_nonempty` looks at each location in turn: those passed that are idle have empty sets.
use Rattle.std.proofs.Common.{ℕ, length, refl, sym, ◌∙◌, arith, rules}
use lib.ListN.{length-replicate}
use borrow.Author.Count.{below_more, below_none}
use Rattle.lists.proofs.Zeros.{get_d_zeros}
use Rattle.flow.proofs.Differing.{passed_more}
use Rattle.flow.proofs.push_nonempty.Goals as goal
use Rattle.flow.proofs.push_nonempty.Goals.{then-set-ne0, else-set-ne0}

pub loop-i-init : goal.loop-i-init
loop-i-init c = (refl, refl, c.requires.1, below_none _, (λ all. refl))

pub push-depth-requires : goal.push-depth-requires
push-depth-requires c = (length c.args.sets.now, search rules, c.loop-i.invariant.2)

pub loop-i-preserved : goal.loop-i-preserved
loop-i-preserved c =
    let v = c.loop-i.invariant in
    elim c.if-set-ne0.branch [
      | then-set-ne0 w ↦
          let e = w.push-depth.ensures in (
            search rules,
            search rules,
            rw (w.idle-is, w.waiting-is, w.depth-is) (e.worklist (length c.args.sets.now) (omega arith) v.2),
            rw w.idle-is (passed_more c.args.sets.now c.loop-i.idle _ c.loop-i.i (omega (arith, v.2.idles)) e.idle v.3),
            (λ all. absurd (w.if-set-ne0.true (all c.loop-i.i))),
          )
      | else-set-ne0 w ↦ (
        search rules,
        search rules,
        rw (w.idle-is, w.waiting-is, w.depth-is) v.2,
        rw w.idle-is (below_more _ c.loop-i.i v.3 (λ f. w.if-set-ne0.false)),
        rw w.depth-is v.4,
      )
    ]

pub returns : goal.returns
returns c = record {
  waits = record {
    long = sym (length-replicate {A = ℕ} _ 0);
    worklist = c.loop-i.invariant.2;
    unchanged = λ q h f. c.loop-i.invariant.3 q (omega (arith, h)) f ∙ sym (get_d_zeros (length c.args.sets.now) q);
  };
  empty = c.loop-i.invariant.4;
}
