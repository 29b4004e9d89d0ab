-- `starting_counts` copies the counts over the front of 64 zeros.
use Rattle.steps.proofs.Starting.{starting_put}
use Rattle.steps.proofs.counts.starting_counts.Goals as goal

pub returns : goal.returns
returns c = starting_put c.args.counts.now _ c.requires c.copy_from_slice.ensures.after
