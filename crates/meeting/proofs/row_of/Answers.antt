-- `row_of` meets its contract: the words that the loop has passed are looked at.
use mathlib.Core.Path.{◌≡◌, sym, ap, ◌∙◌}
use mathlib.Core.Bool.{Bool, not, ◌&&◌, ◌||◌}
use Prim.Native.Nat.{ℕ}
use native.Mathlib.Omega.{arith}
use lib.Dec.{eqb}
use lib.ListN.{length}
use Rattle.timer_set.specs.Members.{member}
use Rattle.timer_set.proofs.Members.{member_empty, member_joined, member_removed}
use Rattle.allocation.specs.Rows.{in_family, any_below, some_in}
use Rattle.allocation.proofs.Below.{some_yes, some_no}
use Rattle.meeting.specs.Meeting.{meet_at}
use Rattle.meeting.proofs.row_of.Goals as goal
use Rattle.meeting.proofs.row_of.Goals.{then-has, else-has}

pub loop-word-init : goal.loop-word-init
unfolding any_below some_in
loop-word-init c = (c.requires, λ j. member_empty j)

pub loop-word-preserved : goal.loop-word-preserved
loop-word-preserved c = (
  c.requires,
  elim c.if-has.branch [
    | then-has w ↦ λ j. rw (w.row-is, w.join-row.ensures) (member_joined c.loop-word.row.bits _ j)
        ∙ ap (λ (b : Bool). b || in_family c.args.families_at.now j c.loop-word.word-index) (c.loop-word.invariant.1 j)
        ∙ some_yes c.args.families_at.now c.args.i (λ s. in_family c.args.families_at.now j s) c.loop-word.word-index
        (sym c.has.ensures ∙ w.if-has.true)
    | else-has w ↦ λ j. rw w.row-is (c.loop-word.invariant.1 j)
        ∙ some_no c.args.families_at.now c.args.i (λ s. in_family c.args.families_at.now j s) c.loop-word.word-index
        (sym c.has.ensures ∙ w.if-has.false)
  ],
)

pub returns : goal.returns
unfolding meet_at
returns c = let e : c.loop-word.word-index ≡ length c.args.families_at.now = omega arith in
    λ j. ap (λ (w : ℕ). member w j) c.without.ensures ∙ member_removed c.loop-word.row.bits c.args.i j
    ∙ ap (λ (b : Bool). b && not (eqb j c.args.i)) (rw e at (c.loop-word.invariant.1 j))
