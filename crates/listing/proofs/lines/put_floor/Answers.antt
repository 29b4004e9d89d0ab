-- `put_floor`: the number after the word that the test chooses.
use Rattle.listing.specs.Text.{floor_word, seen_word}
use Rattle.listing.proofs.lines.put_floor.Goals as goal

pub put_number-requires : goal.put_number-requires
unfolding floor_word
put_number-requires c = rw c.if-searched.true at c.requires

pub returns-then-searched : goal.returns-then-searched
unfolding floor_word
returns-then-searched c = rw c.if-searched.true c.put_number.ensures

pub put_number-requires-2 : goal.put_number-requires-2
unfolding seen_word
put_number-requires-2 c = rw c.if-searched.false at c.requires

pub returns : goal.returns
unfolding seen_word
returns c = rw c.if-searched.false c.put_number-2.ensures
