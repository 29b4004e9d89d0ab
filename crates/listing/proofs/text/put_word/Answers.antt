-- `put_word`: the word is copied to the front.
use lib.Seq.{length-take-le}
use Rattle.listing.proofs.PutBytes.{bytes_copied}
use Rattle.listing.proofs.text.put_word.Goals as goal

pub copy_from_slice-requires : goal.copy_from_slice-requires
copy_from_slice-requires c = length-take-le _ _ c.requires

pub returns : goal.returns
returns c = bytes_copied _ c.copy_from_slice.ensures.after
