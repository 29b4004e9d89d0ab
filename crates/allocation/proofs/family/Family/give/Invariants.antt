use Rattle.std.specs.Prelude.{◌≡◌, ◌*◌, length}
use Rattle.allocation.specs.Rows.{cell_place}
use Rattle.allocation.proofs.Filling.{Rows}
use Rattle.allocation.proofs.family.Family.give.Given as goal

abbrev pub invariant-loop-s : goal.invariant-loop-s
invariant-loop-s l = (length l.cells ≡ 64 * length l.self.sets.now)
    × Rows cell_place 64 l.self.sets.now l.self.timer l.self.timer (λ _. l.number) l.initial.cells l.s l.cells
