use mathlib.Core.Path.{◌≡◌}
use Prim.Native.Nat.{ℕ, ◌≤◌, ◌<◌}
use lib.ListN.{length, get_or}
use Rattle.flow.specs.Rounds.{Differing}
use Rattle.flow.proofs.take_over.Given as goal

abbrev pub invariant-loop-i : goal.invariant-loop-i
invariant-loop-i l =
    Differing l.sets l.after l.idle l.waiting l.i × (length l.idle ≡ length l.initial.idle)
    × (length l.changed ≡ length l.initial.changed) × (l.i ≤ l.depth)
    × ((k : ℕ) → l.i ≤ k → k < l.depth → get_or l.changed k 0 ≡ get_or l.waiting k 0)
