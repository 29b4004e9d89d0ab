-- `number_judged`: the numbers of the chart, and its floor from what these leave.
use mathlib.Core.Path.{sym}
use lib.Seq.{length-take-le}
use Rattle.model.specs.Spare.{reached_part}
use Rattle.model.proofs.ReachedPart.{part_valid}
use Rattle.numbering.proofs.Settling.{few}
use Rattle.numbering.proofs.NumberedFile.{merged_part, part_are, chart_numbers}
use Rattle.numbering.proofs.FloorFound.{floor_asked}
use borrow.Author.Rules.{rules}
use Rattle.numbering.proofs.number_judged.Goals as goal

pub number_chart-numbered-requires : goal.number_chart-numbered-requires
number_chart-numbered-requires c = let room = few c.requires.0.0 c.requires.0.1 in
    (c.requires.0, c.requires.1, room, c.requires.2, room)

pub slice_bounds-merged-end : goal.slice_bounds-merged-end
slice_bounds-merged-end c = let room = few c.requires.0.0 c.requires.0.1 in
    search (rules, room)

pub slice_bounds-find_floor-end : goal.slice_bounds-find_floor-end
slice_bounds-find_floor-end c =
    let p = c.requires.0 in
    sym (merged_part (reached_part p.0) (part_are p.0 p.1.header_is) (c.number_chart-numbered.ensures p.0 p.1 p.2).merged_are)

pub slice_bounds-families_at-end : goal.slice_bounds-families_at-end
slice_bounds-families_at-end c = let room = few c.requires.0.0 c.requires.0.1 in
    search (rules, room)

pub slice_bounds-find_floor-end-2 : goal.slice_bounds-find_floor-end-2
slice_bounds-find_floor-end-2 c = let room = few c.requires.0.0 c.requires.0.1 in
    sym (length-take-le _ _ (search (rules, room)))

pub find_floor-found-requires : goal.find_floor-found-requires
find_floor-found-requires c =
    let p = c.requires.0 in
    let room = few p.0 p.1 in (
      reached_part p.0,
      floor_asked (reached_part p.0) (part_are p.0 p.1.header_is) (part_valid p.1.edges.valid) (c.number_chart-numbered.ensures p.0 p.1 p.2)
          (search (rules, room)),
    )

pub returns : goal.returns
returns c d h reached = let m = c.number_chart-numbered.ensures d h reached in
    let room = few d h in
    let asked = floor_asked (reached_part d) (part_are d h.header_is) (part_valid h.edges.valid) m (search (rules, room)) in
    let f = c.find_floor-found.ensures (reached_part d) asked in (
      chart_numbers d h.header_is m.used_is f.0 f.1 m.rounds_is,
      record { width = h.edges.width; valid = h.edges.valid; live_are = m.live_are; cells_are = unfold reached_part in m.cells_are },
    )
