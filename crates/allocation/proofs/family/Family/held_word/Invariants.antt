use Rattle.std.specs.Prelude.{◌≡◌, ℕ, ◌<◌, length}
use Rattle.timer_set.specs.Members.{member}
use Rattle.allocation.specs.Rows.{in_word, some_in, held_words, held_length}
use Rattle.allocation.proofs.family.Family.held_word.Given as goal

abbrev pub invariant-loop-s : goal.invariant-loop-s
invariant-loop-s l = (l.w < held_words) × (length l.held ≡ held_length)
    × ((x : ℕ) → member l.set.bits x ≡ some_in l.self.sets.now l.self.timer (λ s. in_word l.held s l.w x) l.s)
