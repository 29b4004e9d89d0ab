-- `find_links` meets its contract: the links with timers of the first i transitions are stored. What is hard: those without timers leave no trace, so
-- that a stored link's place is not its transition's number (LinkFinding).
use Rattle.std.proofs.Common.{◌≡◌, length, refl, sym, ◌∙◌, arith}
use Rattle.lists.proofs.Bools.{same_number}
use Rattle.families.proofs.LinkFinding.{list_skip, list_more, found_links, found_ends}
use Rattle.families.proofs.find_links.Goals as goal
use Rattle.families.proofs.find_links.Goals.{then-not-is_empty, else-not-is_empty}

pub push-requires : goal.push-requires
push-requires c = omega (arith, c.requires.few_transitions, c.loop-i.invariant.0, c.loop-i-test.true)

pub loop-i-preserved : goal.loop-i-preserved
loop-i-preserved c =
    let v = c.loop-i.invariant in elim c.if-not-is_empty.branch [
      | then-not-is_empty w ↦ rw (w.links-is, w.push.ensures.links)
          (omega (arith, w.push.ensures.count, v.0), list_more _ _ _ _ _ v.1 _ refl refl c.linked_timers-timers.ensures)
      | else-not-is_empty w ↦ rw w.links-is (
        omega (arith, v.0),
        list_skip _ _ _ _ _ v.1 _ refl refl c.linked_timers-timers.ensures
            (same_number (sym c.is_empty.ensures ∙ w.if-not-is_empty.false)),
      )
    ]

pub returns : goal.returns
returns c =
    let end : c.loop-i.i ≡ length c.args.chart.sources.now = omega arith in
    let x = rw end at c.loop-i.invariant.1 in record {
      few = omega (arith, x.few);
      links = found_links c.requires _ x;
      ends = found_ends c.requires _ x;
    }
