-- `leaves_reached` asks the set of the transition's source.
use mathlib.Core.Path.{ap}
use mathlib.Core.Bool.{not}
use Rattle.model.specs.Live.{is_empty}
use Rattle.spare.proofs.leaves_reached.Goals as goal

pub returns : goal.returns
unfolding is_empty
returns c = ap not c.is_empty.ensures
