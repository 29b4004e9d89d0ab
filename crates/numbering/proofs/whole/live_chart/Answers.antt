-- `live_chart` meets its contract: the rounds leave the live sets. What is hard is only that they are lent the fronts of longer lists.
use mathlib.Core.Path.{sym, ◌∙◌}
use lib.Seq.{length-take-le}
use Rattle.chart_lists.proofs.Holds.{sources_each, targets_each, starts_each}
use Rattle.chart_lists.proofs.Fronts.{each_part}
use Rattle.flow.proofs.ChartFlows.{tested_each}
use Rattle.numbering.proofs.Settling.{few, own_length, settle_safe, live_found}
use Rattle.numbering.proofs.whole.live_chart.Goals as goal

pub slice_bounds-from-end : goal.slice_bounds-from-end
slice_bounds-from-end c = sym (each_part c.requires.0.0 c.requires.0.1.header_is (sources_each c.requires.0.0) c.requires.0.1.edges.sources)

pub slice_bounds-to-end : goal.slice_bounds-to-end
slice_bounds-to-end c = sym (each_part c.requires.0.0 c.requires.0.1.header_is (targets_each c.requires.0.0) c.requires.0.1.edges.targets)

pub slice_bounds-started-end : goal.slice_bounds-started-end
slice_bounds-started-end c = sym (each_part c.requires.0.0 c.requires.0.1.header_is (starts_each c.requires.0.0) c.requires.0.1.edges.starts)

pub slice_bounds-settle-end : goal.slice_bounds-settle-end
slice_bounds-settle-end c = sym (each_part c.requires.0.0 c.requires.0.1.header_is (tested_each c.requires.0.0) c.requires.0.1.tested_are)

pub slice_bounds-own-end : goal.slice_bounds-own-end
slice_bounds-own-end c = few c.requires.0.0 c.requires.0.1

pub slice_bounds-settle-end-2 : goal.slice_bounds-settle-end-2
slice_bounds-settle-end-2 c = sym (own_length c.requires.0.0 c.requires.0.1)

pub slice_bounds-settle-end-4 : goal.slice_bounds-settle-end-4
slice_bounds-settle-end-4 c = sym (length-take-le _ _ c.requires.1)

pub settle-requires : goal.settle-requires
settle-requires c =
    let p = c.requires.0 in
    record { safe_edges = settle_safe p.0 p.1; sets_len = length-take-le _ _ c.requires.1 ∙ sym (own_length p.0 p.1) }

pub returns : goal.returns
returns c chart h = live_found chart h _ c.settle.ensures.sets c.settle.ensures.count
