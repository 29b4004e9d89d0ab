-- A set that is not empty has a lowest timer.
use Rattle.std.proofs.Common.{◌≡◌, ℕ, Bool, false, ◌∙◌, eqb, eq-eqb, arith}
use Rattle.lists.proofs.Bools.{not_both}
use Rattle.timer_set.proofs.LowestMember.{taken_lowest, lowest_below}
use Rattle.timer_set.proofs.TimerSet.split_lowest.Goals as goal

some_left : {w : ℕ} {empty : Bool} → empty ≡ eqb w 0 → empty ≡ false → w ≡ 0 → ⊥
some_left tells f e = not_both (tells ∙ eq-eqb _ _ e) f

pub overflow_cast-result : goal.overflow_cast-result
overflow_cast-result c =
    omega (arith, c.lowest.ensures, lowest_below c.args.self.bits (omega arith) (some_left c.is_empty.ensures c.if-is_empty.false))

pub returns : goal.returns
returns c = rw (c.lowest.ensures, c.without_lowest.ensures)
    (taken_lowest c.args.self.bits (omega arith) (some_left c.is_empty.ensures c.if-is_empty.false))
