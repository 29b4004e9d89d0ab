-- `main` is safe: the listing's buffer holds every text, so the text is within it.
use mathlib.Core.Path.{sym}
use lib.Seq.{length-take-le}
use Rattle.listing.proofs.PutBytes.{bytes_cover}
use Rattle.allocate.proofs.main.Goals as goal

pub slice_bounds-text-end : goal.slice_bounds-text-end
slice_bounds-text-end c = bytes_cover c.list-length.ensures

pub slice_bounds-write_all-end : goal.slice_bounds-write_all-end
slice_bounds-write_all-end c = sym (length-take-le _ _ (bytes_cover c.list-length.ensures))
