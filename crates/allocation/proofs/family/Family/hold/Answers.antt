-- `hold` meets its contract: the words of the family's locations below s are done.
use mathlib.Core.Path.{◌≡◌, sym, ◌∙◌}
use Prim.Native.Nat.{◌<◌}
use native.Mathlib.Omega.{arith}
use lib.ListN.{length-set}
use Rattle.chart_lists.specs.Limits.{most_locations}
use Rattle.allocation.specs.Rows.{holding}
use Rattle.allocation.proofs.Below.{within}
use Rattle.allocation.proofs.Filling.{rows_none, rows_no, rows_yes, rows_all}
use Rattle.allocation.proofs.family.Family.hold.Goals as goal
use Rattle.allocation.proofs.family.Family.hold.Goals.{then-has, else-has}

pub loop-s-init : goal.loop-s-init
loop-s-init c = (c.requires, rows_none (within c.args.self))

pub loop-s-preserved : goal.loop-s-preserved
loop-s-preserved c = let v = c.loop-s.invariant in
    let here : c.loop-s.s < most_locations = omega (arith, c.args.self.inside, c.args.self.few) in elim c.if-has.branch [
      | then-has w ↦ rw w.words-is (
        simp length-set v.0,
        rows_yes here v.1 (sym c.has.ensures ∙ w.if-has.true) v.0.0 (omega (arith, v.0, c.args.self.inside))
            (λ q i h k p. (omega arith, omega arith)) w.with.ensures,
      )
      | else-has w ↦ rw w.words-is (v.0, rows_no here v.1 (sym c.has.ensures ∙ w.if-has.false))
    ]

pub returns : goal.returns
unfolding holding
returns c = let e : c.loop-s.s ≡ c.args.self.end = omega (arith, c.args.self.ordered) in
    λ s v h k. rows_all (within c.args.self) (rw e at c.loop-s.invariant.1) s v (omega (arith, h, c.args.self.few)) k
