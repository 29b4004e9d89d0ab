use Rattle.std.specs.Prelude.{◌≡◌, true, ℕ, ◌*◌, ◌<◌, length}
use Rattle.allocation.specs.Rows.{Lengths, WordsAgree, taken}
use Rattle.allocation.proofs.family.Family.lowest_free.Given as goal

abbrev pub invariant-loop-w : goal.invariant-loop-w
invariant-loop-w l = (Lengths l.self.sets.now l.cells l.held × WordsAgree l.cells l.held (length l.self.sets.now))
    × ((k : ℕ) → k < 64 * l.w → taken l.self.sets.now l.cells l.self.timer k ≡ true)
