-- `reached_part` finds the reached sets and keeps the transitions by them.
use Rattle.chart_lists.proofs.Fronts.{transitions_are}
use Rattle.spare.proofs.ReachedLists.{holds_ends}
use Rattle.spare.proofs.reached_part.Goals as goal

pub reached_sets-reached-requires : goal.reached_sets-reached-requires
reached_sets-reached-requires c = (c.requires.0, c.requires.1, holds_ends c.requires.2)

pub keep_reached-requires : goal.keep_reached-requires
keep_reached-requires c =
    let q = c.requires in
    (q.0, transitions_are q.0 q.1, q.2, q.3, c.reached_sets-reached.ensures q.0 q.1 (holds_ends q.2))

pub returns : goal.returns
returns c = λ chart e h t. c.keep_reached.ensures chart (transitions_are chart e) h t (c.reached_sets-reached.ensures chart e (holds_ends h))
