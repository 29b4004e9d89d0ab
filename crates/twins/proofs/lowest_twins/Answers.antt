-- `lowest_twins` meets its contract: the timers below j are listed with their lowest twins.
use mathlib.Core.Path.{◌≡◌, sym, ap, ◌∙◌}
use native.Mathlib.Omega.{arith}
use borrow.Author.Tests.{eq-eqb, ne_eqb}
use Rattle.lists.proofs.Nth.{filled_more}
use Rattle.twins.specs.LowestTwins.{own_lowest}
use Rattle.twins.specs.LowestTwins.{own_below}
use Rattle.twins.proofs.Own.{own_none, own_yes, own_no}
use Rattle.twins.proofs.lowest_twins.Goals as goal
use Rattle.twins.proofs.lowest_twins.Goals.{then-twin-j, else-twin-j}

pub loop-j-init : goal.loop-j-init
loop-j-init c = (λ k h. absurd (omega arith), sym (own_none _ _))

pub loop-j-preserved : goal.loop-j-preserved
loop-j-preserved c =
    let v = c.loop-j.invariant in
    let e = c.lowest_in_same-twin.ensures _ c.loop-j-test.true in (
      rw e (filled_more _ c.loop-j.lowest c.loop-j.j (omega (arith, c.loop-j.auto.lowest)) v.0),
      elim c.if-twin-j.branch [
        | then-twin-j w ↦ rw w.own-is (w.with-own.ensures ∙ rw v.1 (sym (own_yes _ _ c.loop-j.j (eq-eqb _ _ (sym e ∙ w.if-twin-j.true)))))
        | else-twin-j w ↦ rw w.own-is (v.1 ∙ sym (own_no _ _ c.loop-j.j (ne_eqb _ _ (λ q. w.if-twin-j.false (e ∙ q)))))
      ],
    )

pub returns : goal.returns
unfolding own_lowest
returns c = let e : c.loop-j.j ≡ c.args.timers = omega arith in record {
  listed = λ k h. c.loop-j.invariant.0 k (omega arith);
  own = c.loop-j.invariant.1 ∙ ap (own_below _ _) e;
}
