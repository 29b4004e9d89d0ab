use borrow.Author.Rules.{rules}
use Rattle.listing.proofs.list.Goals as goal

pub put_text-requires : goal.put_text-requires
put_text-requires c = search rules
