use mathlib.Core.Path.{◌≡◌}
use Prim.Native.Nat.{ℕ, ◌≤◌, ◌<◌}
use lib.ListN.{length, get_or}
use Rattle.timer_set.specs.Members.{joined}
use Rattle.families.specs.Propagation.{EmptyFrom}
use Rattle.allocation.proofs.join_sets.Given as goal

abbrev pub invariant-loop-s : goal.invariant-loop-s
invariant-loop-s l = (length l.all ≡ length l.initial.all) × (length l.initial.all ≡ length l.sets) × EmptyFrom l.end l.sets
    × ((q : ℕ) → q < l.s → get_or l.all q 0 ≡ joined (get_or l.initial.all q 0) (get_or l.sets q 0))
    × ((q : ℕ) → l.s ≤ q → get_or l.all q 0 ≡ get_or l.initial.all q 0)
