-- `taken_word` meets its contract: numbers below 512 are the same by words and by rows.
use mathlib.Core.Path.{◌∙◌}
use native.Mathlib.Omega.{arith}
use Rattle.allocation.proofs.Words.{words_taken}
use Rattle.allocation.proofs.family.Family.taken_word.Goals as goal

pub returns-then-w-lt-HELD_WORDS : goal.returns-then-w-lt-HELD_WORDS
returns-then-w-lt-HELD_WORDS c = λ x h. c.held_word.ensures x
    ∙ words_taken c.args.self.sets.now c.args.cells.now c.args.held.now c.requires.1 c.args.self.timer c.args.w x (omega arith) h
