use Rattle.std.specs.Prelude.{◌≤◌, length}
use Rattle.families.specs.Pairs.{link_at}
use Rattle.families.specs.Propagation.{stored, link_on}
use Rattle.families.proofs.LinkFinding.{Found}
use Rattle.families.proofs.find_links.Given as goal

abbrev pub invariant-loop-i : goal.invariant-loop-i
invariant-loop-i l = (l.links.count ≤ l.i)
    × Found (link_at l.chart.sources.now l.chart.targets.now l.chart.starts.now l.chart.live.now) (link_on (stored l.links)) l.i
    (length (stored l.links))
