-- `accepts` asks the library whether the location is in the list.
use mathlib.Core.Path.{◌∙◌}
use Rattle.player.proofs.Accepting.{memb_contains}
use Rattle.player.proofs.accepts.Goals as goal

pub returns : goal.returns
returns c = c.contains.ensures.value ∙ memb_contains c.args.location c.args.accepting.now
