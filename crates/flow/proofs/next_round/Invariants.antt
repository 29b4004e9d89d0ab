use mathlib.Core.Path.{◌≡◌}
use mathlib.Core.List.{List}
use Prim.Native.Nat.{ℕ, ◌+◌, ◌≤◌}
use lib.ListN.{length, get_or}
use Rattle.lists.specs.Lists.{sum_of}
use Rattle.worklist.specs.Worklist.{Adjacency, Worklist}
use Rattle.worklist.specs.GoneOver.{GoneOver}
use Rattle.flow.specs.Rounds.{LeavesOne}
use Rattle.flow.proofs.next_round.Given as goal

abbrev pub invariant-loop-location : goal.invariant-loop-location
invariant-loop-location l =
    (length l.after ≡ length l.initial.after) × (length l.idle ≡ length l.initial.idle) × (length l.waiting ≡ length l.initial.waiting)
    × ((from : List ℕ) → Adjacency (length l.initial.after) from l.into l.cut l.first l.next
    → GoneOver from l.into l.cut (LeavesOne from l.changed l.location-index) (λ q. get_or l.sets q 0) l.initial.after l.initial.idle l.after l.idle)
    × Worklist (length l.initial.after) l.idle l.waiting l.depth × (l.depth + sum_of l.initial.after ≤ sum_of l.after)
