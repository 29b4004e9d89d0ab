use Prim.Native.Nat.{ℕ, ◌*◌, ◌-◌, ◌^◌, ◌<◌}
use lib.ListN.{length, get_or}
use Rattle.lists.specs.Lists.{sum_of}
use Rattle.families.specs.Propagation.{Ends, Joins, EmptyFrom}
use Rattle.families.proofs.propagate.Given as goal

abbrev pub invariant-loop-next : goal.invariant-loop-next
invariant-loop-next l =
    Ends (length l.initial.sets) l.links × ((s : ℕ) → get_or l.initial.sets s 0 < 2 ^ 64)
    × Joins l.links l.initial.sets l.sets × EmptyFrom l.end l.sets

abbrev pub decreases-loop-next : goal.decreases-loop-next
decreases-loop-next l = 2 ^ 64 * length l.initial.sets - sum_of l.sets
