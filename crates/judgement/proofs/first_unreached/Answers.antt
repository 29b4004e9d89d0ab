-- `first_unreached`: the first empty set is 9's place, of the unstarted sets where timer 63 is none of the chart's, else of sets of which nothing is
-- cut, which are made here over the front of an array.
use mathlib.Core.Path.{sym, ap, ◌∙◌}
use Rattle.forward.proofs.Lent.{few_locations, lent_length, lent_safe, lent_empty, made_room, seen_length, seen_sets}
use Rattle.judgement.specs.Places.{first_empty}
use Rattle.judgement.proofs.Judging.{unreached_few, unreached_all}
use Rattle.judgement.proofs.first_unreached.Goals as goal

pub returns-then-header-lt64 : goal.returns-then-header-lt64
returns-then-header-lt64 c = c.first_empty.ensures ∙ unreached_few c.args.header.initial _ _ _ c.if-header-lt64.true

pub slice_bounds-reached-end : goal.slice_bounds-reached-end
slice_bounds-reached-end c = few_locations c.requires

pub slice_bounds-settle_reached-end : goal.slice_bounds-settle_reached-end
slice_bounds-settle_reached-end c = sym (lent_length c.requires)

pub settle_reached-requires : goal.settle_reached-requires
settle_reached-requires c = (lent_safe c.requires, lent_empty c.requires)

pub slice_bounds-reached-end-2 : goal.slice_bounds-reached-end-2
slice_bounds-reached-end-2 c = made_room c.requires c.settle_reached.ensures _

pub slice_bounds-first_empty-end : goal.slice_bounds-first_empty-end
slice_bounds-first_empty-end c = sym (seen_length c.requires c.settle_reached.ensures _)

pub returns : goal.returns
returns c = c.first_empty-2.ensures ∙ ap first_empty (seen_sets c.requires c.settle_reached.ensures _)
    ∙ unreached_all c.args.header.initial _ _ _ c.if-header-lt64.false
