use Rattle.std.proofs.Common.{◌≡◌, true, ℕ}
use Rattle.timer_set.specs.Members.{member}
use Rattle.smallest_plan.proofs.Search.pick.Given as goal

abbrev pub invariant-loop-v : goal.invariant-loop-v
invariant-loop-v l =
    ((i : ℕ) → member l.v-iterator.left.bits i ≡ true → member l.self.unplaced.bits i ≡ true) × (member l.self.unplaced.bits l.best ≡ true)
