use mathlib.Core.Path.{◌≡◌}
use mathlib.Core.List.{List}
use Prim.Native.Nat.{ℕ, ◌+◌, ◌-◌, ◌≤◌}
use lib.ListN.{length}
use Rattle.lists.specs.Lists.{sum_of}
use Rattle.worklist.specs.Worklist.{Adjacency, Worklist}
use Rattle.worklist.proofs.GoingOver.{GoingOver}
use Rattle.worklist.proofs.visit.Given as goal

abbrev pub invariant-loop-i : goal.invariant-loop-i
invariant-loop-i l =
    (length l.sets ≡ length l.initial.sets) × (length l.idle ≡ length l.initial.idle) × (length l.waiting ≡ length l.initial.waiting)
    × (l.top + sum_of l.initial.sets ≤ l.depth + sum_of l.sets)
    × Worklist (length l.initial.sets) l.idle l.waiting l.top
    × ((from : List ℕ) → Adjacency (length l.initial.sets) from l.into l.cut l.first l.next
    → GoingOver from l.into l.cut l.here l.stood l.i l.initial.sets l.initial.idle l.sets l.idle)

abbrev pub decreases-loop-i : goal.decreases-loop-i
decreases-loop-i l = l.n - l.i
