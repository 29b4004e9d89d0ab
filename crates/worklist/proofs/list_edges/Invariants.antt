use mathlib.Core.Path.{◌≡◌}
use Prim.Native.Nat.{◌≤◌}
use lib.ListN.{length}
use Rattle.worklist.proofs.Leaving.{ListedFrom}
use Rattle.worklist.proofs.list_edges.Given as goal

abbrev pub invariant-loop-i : goal.invariant-loop-i
invariant-loop-i l =
    (l.i ≤ length l.from) × (length l.first ≡ length l.initial.first) × (length l.next ≡ length l.initial.next)
    × ListedFrom l.from l.first l.next l.i
