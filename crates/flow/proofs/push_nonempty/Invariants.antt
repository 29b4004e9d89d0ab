use mathlib.Core.Path.{◌≡◌}
use Prim.Native.Nat.{ℕ}
use lib.ListN.{length, get_or}
use Rattle.worklist.specs.Worklist.{Worklist}
use Rattle.flow.proofs.Differing.{Passed}
use Rattle.flow.proofs.push_nonempty.Given as goal

abbrev pub invariant-loop-i : goal.invariant-loop-i
invariant-loop-i l =
    (length l.idle ≡ length l.initial.idle) × (length l.waiting ≡ length l.initial.waiting)
    × Worklist (length l.sets) l.idle l.waiting l.depth × Passed l.sets l.idle l.i × (((q : ℕ) → get_or l.sets q 0 ≡ 0) → l.depth ≡ 0)
