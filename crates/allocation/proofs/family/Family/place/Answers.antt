-- `place` meets its contract: the rows and, below 512, the words get the number alike.
use native.Mathlib.Omega.{arith}
use Rattle.allocation.proofs.Words.{words_past, words_held}
use Rattle.allocation.proofs.family.Family.place.Goals as goal

pub returns-then-number-lt-HELD_NUMBERS-clause-held : goal.returns-then-number-lt-HELD_NUMBERS-clause-held
returns-then-number-lt-HELD_NUMBERS-clause-held c =
    words_held c.args.self.sets.now c.args.self.timer c.lowest_free-number.result c.args.self.one c.args.cells.now c.give.new.cells c.requires.2
    c.give.ensures c.args.held.now c.requires.1 c.if-number-lt-HELD_NUMBERS.true c.hold.new.words c.hold.ensures

pub returns-else-number-lt-HELD_NUMBERS-clause-held : goal.returns-else-number-lt-HELD_NUMBERS-clause-held
returns-else-number-lt-HELD_NUMBERS-clause-held c =
    words_past c.args.self.sets.now c.args.self.timer c.lowest_free-number.result c.args.self.one c.args.cells.now c.give.new.cells c.requires.2
    c.give.ensures c.args.held.now c.requires.1 (omega (arith, c.if-number-lt-HELD_NUMBERS.false))
