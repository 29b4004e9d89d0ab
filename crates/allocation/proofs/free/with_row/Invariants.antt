use mathlib.Core.Path.{◌≡◌}
use mathlib.Core.Bool.{◌||◌}
use Prim.Native.Nat.{ℕ, ◌+◌, ◌*◌, ◌≤◌, ◌<◌}
use lib.ListN.{length}
use Rattle.timer_set.specs.Members.{member}
use Rattle.allocation.specs.Rows.{in_row}
use Rattle.chart_lists.specs.Limits.{most_locations}
use Rattle.allocation.proofs.free.with_row.Given as goal

abbrev pub invariant-loop-i : goal.invariant-loop-i
invariant-loop-i l = (l.s < most_locations) × (64 * l.s + 64 ≤ length l.cells)
    × ((x : ℕ) → x < 64 → member l.found.bits x ≡ (member l.initial.found.bits x || in_row l.cells l.s (64 * l.w + x) l.i))
