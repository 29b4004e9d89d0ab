-- `entry_at` meets its contract: what `get` finds, or that the list has ended.
use Rattle.list_judging.proofs.Got.{got_entry}
use Rattle.list_judging.proofs.entries.entry_at.Goals as goal

pub returns : goal.returns
returns g c = let found = c.get.ensures.lookup in
    rw (c.ok_or.ensures.value, c.copied.ensures) (got_entry _ _ _ _ found.1 found.3)
