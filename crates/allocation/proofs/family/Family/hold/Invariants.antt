use Rattle.std.specs.Prelude.{◌+◌, ◌*◌, ◌≤◌, ◌<◌, length}
use Rattle.timer_set.specs.Members.{added}
use Rattle.chart_lists.specs.Limits.{most_locations}
use Rattle.allocation.specs.Rows.{held_words, word_place}
use Rattle.allocation.proofs.Filling.{Rows}
use Rattle.allocation.proofs.family.Family.hold.Given as goal

abbrev pub invariant-loop-s : goal.invariant-loop-s
invariant-loop-s l = ((l.w < held_words) × (l.x < 64) × (most_locations * l.w + length l.self.sets.now ≤ length l.words))
    × Rows word_place held_words l.self.sets.now l.self.timer l.w (λ word. added word l.x) l.initial.words l.s l.words
