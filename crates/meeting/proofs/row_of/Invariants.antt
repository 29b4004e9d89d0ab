use mathlib.Core.Path.{◌≡◌}
use mathlib.Core.Bool.{Bool}
use mathlib.Core.List.{List}
use Prim.Native.Nat.{ℕ, ◌<◌}
use Rattle.timer_set.specs.Members.{member}
use Rattle.allocation.specs.Rows.{in_family, some_in}
use Rattle.meeting.proofs.row_of.Given as goal

-- one of the first locations has both families
abbrev both : (at : List ℕ) → (i j locations : ℕ) → Bool
both at i j locations = some_in at i (λ s. in_family at j s) locations

abbrev pub invariant-loop-word : goal.invariant-loop-word
invariant-loop-word l = (l.i < 64) × ((j : ℕ) → member l.row.bits j ≡ both l.families_at l.i j l.word-index)
