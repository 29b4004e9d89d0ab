-- `allocate` meets its contract: the links, cleared arrays, and then the locations in turn. What is hard is only which part of which array is lent.
use mathlib.Core.Path.{refl, ap, ◌∙◌, subst}
use mathlib.Core.List.{List}
use Rattle.std.proofs.Common.{rules}
use lib.ListN.{length}
use Rattle.model.specs.Family.{Family}
use Rattle.model.specs.FirstFit.{Placed, used_by}
use Rattle.model.specs.Rewrite.{numbering}
use Rattle.families.specs.Pairs.{pairs_of, pairs_in, SafeChart}
use Rattle.families.specs.declared.LiveChart.{LiveChart}
use Rattle.families.specs.declared.links.Link.{Link}
use Rattle.families.specs.Propagation.{LinkLists}
use Rattle.families.proofs.CodePairs.{formed}
use Rattle.families.proofs.Propagated.{zeros}
use Rattle.allocation.specs.Cells.{cells_of}
use Rattle.allocation.specs.FamiliesAt.{FamiliesAt}
use Rattle.allocation.specs.Turns.{Described}
use Rattle.allocation.proofs.AllFamilies.{all_families, all_placed}
use Rattle.allocation.proofs.Cleared.{filled, fresh}
use Rattle.allocation.proofs.allocate.Goals as goal

-- the links that were found are those of the pairs
described : (chart : LiveChart) (links : List Link) → SafeChart chart → LinkLists (pairs_in chart) links
    → Described (pairs_in chart) chart.live.now links
unfolding pairs_of
described chart links safe found = record { formed = formed safe; sets_are = refl; locations_are = refl; links_are = found }

pub number_locations-requires : goal.number_locations-requires
number_locations-requires c = (
  (
    pairs_in c.args.chart,
    rw c.as_slice.ensures (described c.args.chart _ c.requires.0 c.find_links.ensures.links),
  ),
  rw c.as_slice.ensures c.find_links.ensures.ends,
  fresh c.args.chart.live.now c.fill.new.self c.fill-2.new.self c.requires.0.few_locations (c.fill.auto.self ∙ c.requires.1)
      (filled _ _ (c.fill.ensures.after (search rules)) c.requires.1) (c.fill-2.auto.self ∙ c.requires.2)
      (zeros _ (c.fill-2.ensures.after (search rules))),
)

pub returns : goal.returns
unfolding pairs_of
returns c = let n = c.number_locations.ensures (pairs_in c.args.chart)
    (rw c.as_slice.ensures (described c.args.chart _ c.requires.0 c.find_links.ensures.links)) in
    let all = all_families (formed c.requires.0) in
    let e = all_placed (formed c.requires.0) in record {
      cells = n.cells_are ∙ ap (λ (ps : List Placed). cells_of (numbering ps) (length c.args.chart.live.now)) e;
      used = n.used_is ∙ ap used_by e;
      families = n.count_is ∙ ap length all;
      at = subst (λ (fs : List Family). FamiliesAt fs c.number_locations.new.families_at) all n.at_are;
    }
