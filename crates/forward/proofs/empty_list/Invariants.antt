use mathlib.Core.Path.{◌≡◌}
use mathlib.Core.List.{List}
use Prim.Native.Nat.{ℕ, ◌+◌, ◌*◌, ◌-◌, ◌^◌}
use lib.ListN.{length}
use Rattle.lists.specs.Lists.{sum_of}
use Rattle.model.proofs.Rounds.{Words}
use Rattle.forward.specs.Working.{BetweenVisits}
use Rattle.forward.proofs.empty_list.Given as goal

abbrev pub invariant-loop-left : goal.invariant-loop-left
invariant-loop-left l =
    (length l.sets ≡ length l.initial.sets) × (length l.idle ≡ length l.initial.idle) × (length l.waiting ≡ length l.initial.waiting)
    × Words l.sets
    × ((initial : ℕ) (sources : List ℕ)
    → BetweenVisits initial (length l.initial.sets) sources l.targets l.cut l.first l.next l.initial.sets l.initial.idle l.initial.waiting
    l.depth
    → BetweenVisits initial (length l.initial.sets) sources l.targets l.cut l.first l.next l.sets l.idle l.waiting l.left)

abbrev pub decreases-loop-left : goal.decreases-loop-left
decreases-loop-left l = 2 ^ 64 * length l.initial.sets - sum_of l.sets + l.left
