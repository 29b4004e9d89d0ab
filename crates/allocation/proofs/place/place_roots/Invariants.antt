use mathlib.Core.Path.{◌≡◌}
use mathlib.Core.Bool.{true}
use Prim.Native.Nat.{ℕ, ◌+◌, ◌*◌, ◌≤◌, ◌<◌}
use lib.ListN.{length}
use Rattle.timer_set.specs.Members.{member}
use Rattle.model.specs.Family.{Pairs}
use Rattle.allocation.specs.Rows.{Lengths, WordsAgree, Within, Unnumbered}
use Rattle.allocation.specs.Turns.{NumberedTo, Roots}
use Rattle.allocation.specs.Cells.{most_cells}
use Rattle.allocation.proofs.InTurn.{Rest}
use Rattle.allocation.proofs.place.place_roots.Given as goal

-- the families of the timers below a place have their numbers
abbrev pub invariant-loop-j : goal.invariant-loop-j
invariant-loop-j l =
    (Lengths l.spread.sets.now l.cells l.held × WordsAgree l.cells l.held (length l.spread.sets.now)
    × (length l.families_at ≡ length l.spread.sets.now))
    × ((i : ℕ) → member l.spread.roots.bits i ≡ true → Within l.spread.sets.now i l.spread.from l.spread.end)
    × ((place : ℕ) × Rest l.spread.roots.bits l.j-iterator.left.bits place × (l.next.families ≤ most_cells + place)
    × ((i : ℕ) → place ≤ i → i < 64 → member l.spread.roots.bits i ≡ true → Unnumbered l.spread.sets.now i l.cells)
    × ((p : Pairs) (q : ℕ) → Roots p q l.spread.roots.bits l.spread.sets.now
    → NumberedTo p (64 * q) l.initial.cells l.initial.families_at l.initial.next.used l.initial.next.families
    → NumberedTo p (64 * q + place) l.cells l.families_at l.next.used l.next.families))
