-- `held_word` meets its contract: the locations of the family below s are looked at.
use mathlib.Core.Path.{◌≡◌, sym, ap, ◌∙◌}
use native.Mathlib.Omega.{arith}
use mathlib.Core.Bool.{Bool, ◌||◌}
use Rattle.timer_set.proofs.Members.{member_empty, member_joined}
use Rattle.allocation.specs.Rows.{in_word}
use Rattle.allocation.proofs.Below.{within, some_none, some_yes, some_no, some_all}
use Rattle.allocation.proofs.family.Family.held_word.Goals as goal
use Rattle.allocation.proofs.family.Family.held_word.Goals.{then-has, else-has}

pub loop-s-init : goal.loop-s-init
loop-s-init c = (c.requires.0, c.requires.1, λ x. member_empty x ∙ sym (some_none _ _ _ (within c.args.self)))

pub loop-s-preserved : goal.loop-s-preserved
loop-s-preserved c = (
  c.requires.0,
  c.requires.1,
  elim c.if-has.branch [
    | then-has w ↦ λ x. rw (w.set-is, w.join-set.ensures)
        (member_joined c.loop-s.set.bits _ x ∙ ap (λ (b : Bool). b || in_word c.args.held.now c.loop-s.s c.args.w x) (c.loop-s.invariant.2 x)
        ∙ some_yes c.args.self.sets.now c.args.self.timer (λ s. in_word c.args.held.now s c.args.w x) c.loop-s.s (sym c.has.ensures ∙ w.if-has.true))
    | else-has w ↦ λ x. rw w.set-is (c.loop-s.invariant.2 x)
        ∙ some_no c.args.self.sets.now c.args.self.timer (λ s. in_word c.args.held.now s c.args.w x) c.loop-s.s (sym c.has.ensures ∙ w.if-has.false)
  ],
)

pub returns : goal.returns
returns c = let e : c.loop-s.s ≡ c.args.self.end = omega (arith, c.args.self.ordered) in
    λ x. (rw e at (c.loop-s.invariant.2 x))
    ∙ some_all c.args.self.sets.now c.args.self.timer (λ s. in_word c.args.held.now s c.args.w x) (within c.args.self)
