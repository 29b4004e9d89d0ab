-- `settle_reached` settles with the front of an array of zeros for what is cut: nothing for each transition.
use mathlib.Core.Path.{sym, ap, ◌∙◌}
use lib.ListN.{length}
use Rattle.forward.specs.Forward.{forward_sets}
use Rattle.forward.proofs.Lent.{none_front, none_length}
use Rattle.forward.proofs.settle_reached.Goals as goal

pub slice_bounds-settle_forward-end : goal.slice_bounds-settle_forward-end
slice_bounds-settle_forward-end c = sym (none_length c.requires.0)

pub settle_forward-requires : goal.settle_forward-requires
settle_forward-requires c = (rw (none_front c.requires.0) c.requires.0, c.requires.1)

pub returns : goal.returns
returns c = c.settle_forward.ensures
    ∙ ap (forward_sets c.args.initial (length c.args.sets.now) c.args.sources.now c.args.targets.now) (none_front c.requires.0)
