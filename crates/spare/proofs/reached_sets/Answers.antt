-- `reached_sets` finds them from the fronts of the lists, over the front of an array of empty sets, which it hands back whole.
use mathlib.Core.Path.{sym}
use Rattle.forward.proofs.Lent.{few_locations, lent_length, lent_safe, lent_empty}
use Rattle.spare.proofs.ReachedLists.{sources_part, targets_part, safe_fronts, reached_begin}
use Rattle.spare.proofs.reached_sets.Goals as goal

pub slice_bounds-settle_reached-end : goal.slice_bounds-settle_reached-end
slice_bounds-settle_reached-end c = sources_part c.requires.0 c.requires.1 c.requires.2

pub slice_bounds-settle_reached-end-2 : goal.slice_bounds-settle_reached-end-2
slice_bounds-settle_reached-end-2 c = targets_part c.requires.0 c.requires.1 c.requires.2

pub slice_bounds-reached-end : goal.slice_bounds-reached-end
slice_bounds-reached-end c = few_locations (safe_fronts c.requires.0 c.requires.1 c.requires.2)

pub slice_bounds-settle_reached-end-3 : goal.slice_bounds-settle_reached-end-3
slice_bounds-settle_reached-end-3 c = sym (lent_length (safe_fronts c.requires.0 c.requires.1 c.requires.2))

pub settle_reached-requires : goal.settle_reached-requires
settle_reached-requires c = let safe = safe_fronts c.requires.0 c.requires.1 c.requires.2 in
    (lent_safe safe, lent_empty safe)

pub returns : goal.returns
returns c = λ chart e h. reached_begin chart e h _ c.settle_reached.ensures
