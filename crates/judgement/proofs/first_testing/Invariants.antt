use mathlib.Core.Path.{◌≡◌}
use mathlib.Core.Bool.{false}
use Prim.Native.Nat.{ℕ, ◌<◌}
use Rattle.judgement.specs.Tested.{tests_at}
use Rattle.judgement.proofs.first_testing.Given as goal

abbrev pub invariant-loop-i : goal.invariant-loop-i
invariant-loop-i l = (k : ℕ) → k < l.i → tests_at l.sources l.tested l.sets k ≡ false
