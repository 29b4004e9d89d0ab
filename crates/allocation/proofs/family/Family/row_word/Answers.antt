-- `row_word` meets its contract: the rows of the family's locations below s are looked at.
use mathlib.Core.Path.{◌≡◌, sym, ap, ◌∙◌}
use Prim.Native.Nat.{◌+◌, ◌*◌}
use native.Mathlib.Omega.{arith}
use mathlib.Core.Bool.{Bool, ◌||◌}
use Rattle.timer_set.proofs.Members.{member_empty}
use Rattle.allocation.specs.Rows.{in_row, taken}
use Rattle.allocation.proofs.Below.{within, some_none, some_yes, some_no, some_all}
use Rattle.allocation.proofs.family.Family.row_word.Goals as goal
use Rattle.allocation.proofs.family.Family.row_word.Goals.{then-has, else-has}

pub loop-s-init : goal.loop-s-init
loop-s-init c = (c.requires, λ x h. member_empty x ∙ sym (some_none _ _ _ (within c.args.self)))

pub loop-s-preserved : goal.loop-s-preserved
loop-s-preserved c = (
  c.requires,
  elim c.if-has.branch [
    | then-has w ↦ λ x h. rw w.set-is (w.with_row-set.ensures x h)
        ∙ ap (λ (b : Bool). b || in_row c.args.cells.now c.loop-s.s (64 * c.args.w + x) 64) (c.loop-s.invariant.1 x h)
        ∙ some_yes c.args.self.sets.now c.args.self.timer (λ s. in_row c.args.cells.now s (64 * c.args.w + x) 64) c.loop-s.s
        (sym c.has.ensures ∙ w.if-has.true)
    | else-has w ↦ λ x h. rw w.set-is (c.loop-s.invariant.1 x h)
        ∙ some_no c.args.self.sets.now c.args.self.timer (λ s. in_row c.args.cells.now s (64 * c.args.w + x) 64) c.loop-s.s
        (sym c.has.ensures ∙ w.if-has.false)
  ],
)

pub returns : goal.returns
unfolding taken
returns c = let e : c.loop-s.s ≡ c.args.self.end = omega (arith, c.args.self.ordered) in
    λ x h. (rw e at (c.loop-s.invariant.1 x h))
    ∙ some_all c.args.self.sets.now c.args.self.timer (λ s. in_row c.args.cells.now s (64 * c.args.w + x) 64) (within c.args.self)
