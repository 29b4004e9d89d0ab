-- `put_number`: the number goes into the part after the word.
use Rattle.listing.proofs.PutBytes.{bytes_next}
use Rattle.listing.proofs.text.put_number.Goals as goal

pub returns : goal.returns
returns c = bytes_next c.put_word-at.ensures c.put_decimal.ensures
