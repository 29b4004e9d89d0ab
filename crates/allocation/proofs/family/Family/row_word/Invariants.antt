use Rattle.std.specs.Prelude.{◌≡◌, ℕ, ◌+◌, ◌*◌, ◌<◌, length}
use Rattle.timer_set.specs.Members.{member}
use Rattle.allocation.specs.Rows.{in_row, some_in}
use Rattle.allocation.proofs.family.Family.row_word.Given as goal

abbrev pub invariant-loop-s : goal.invariant-loop-s
invariant-loop-s l = (length l.cells ≡ 64 * length l.self.sets.now)
    × ((x : ℕ) → x < 64 → member l.set.bits x ≡ some_in l.self.sets.now l.self.timer (λ s. in_row l.cells s (64 * l.w + x) 64) l.s)
