-- `number_lists` meets its contract: the live sets are found, then numbered. What is hard is only that the numbering is lent the fronts of longer
-- lists.
use mathlib.Core.Path.{refl, sym, ap, ◌∙◌}
use Prim.Native.Nat.{ℕ, ◌*◌}
use lib.Seq.{length-take-le}
use Rattle.chart_lists.proofs.Holds.{sources_each, targets_each, starts_each}
use Rattle.chart_lists.proofs.Fronts.{locations_are, each_part}
use Rattle.numbering.proofs.Settling.{live_lists, numbered}
use Rattle.numbering.proofs.NumberedFile.{live_part}
use Rattle.numbering.proofs.whole.number_lists.Goals as goal

pub slice_bounds-chart-end : goal.slice_bounds-chart-end
slice_bounds-chart-end c = sym (each_part c.requires.0.0 c.requires.0.1.header_is (sources_each c.requires.0.0) c.requires.0.1.edges.sources)

pub slice_bounds-chart-end-2 : goal.slice_bounds-chart-end-2
slice_bounds-chart-end-2 c = sym (each_part c.requires.0.0 c.requires.0.1.header_is (targets_each c.requires.0.0) c.requires.0.1.edges.targets)

pub slice_bounds-chart-end-3 : goal.slice_bounds-chart-end-3
slice_bounds-chart-end-3 c = sym (each_part c.requires.0.0 c.requires.0.1.header_is (starts_each c.requires.0.0) c.requires.0.1.edges.starts)

pub number_live-allocated-requires : goal.number_live-allocated-requires
number_live-allocated-requires c = let b = (c.live_chart-rounds.ensures c.requires.0.0 c.requires.0.1).0 in
    let long = sym (live_part c.requires.0.0 (locations_are c.requires.0.0 c.requires.0.1.header_is) b) in (
      (c.requires.0.0, live_lists c.requires.0.0 c.requires.0.1 b),
      length-take-le _ _ c.requires.2 ∙ long,
      length-take-le _ _ c.requires.3 ∙ ap (λ (n : ℕ). 64 * n) long,
      length-take-le _ _ c.requires.4 ∙ long,
    )

pub returns : goal.returns
returns c chart h = let e = c.live_chart-rounds.ensures chart h in
    numbered chart h e.0 _ _ _ (c.number_live-allocated.ensures chart (live_lists chart h e.0))
    (c.number_live-allocated.auto.families_at ∙ length-take-le _ _ c.requires.4) refl refl e.1
