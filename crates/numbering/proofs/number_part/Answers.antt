-- `number_part`: the lists of the part that counts are numbered as those of any chart.
use Rattle.model.specs.Spare.{reached_part}
use Rattle.numbering.proofs.NumberedFile.{part_header}
use Rattle.numbering.proofs.number_part.Goals as goal

pub reached_part-requires : goal.reached_part-requires
reached_part-requires c = let h = c.requires.0.1 in (c.requires.0.0, h.header_is, h.edges, h.tested_are)

pub number_lists-requires : goal.number_lists-requires
number_lists-requires c =
    let p = c.requires.0 in
    let l = c.reached_part.ensures p.0 p.1.header_is p.1.edges p.1.tested_are in (
      (reached_part p.0, record { header_is = part_header p.0 p.1.header_is l.count; edges = l.edges; tested_are = l.tested_are }),
      c.requires.1,
      c.requires.2,
      c.requires.3,
      c.requires.4,
    )

pub returns : goal.returns
returns c chart h =
    let l = c.reached_part.ensures chart h.header_is h.edges h.tested_are in
    c.number_lists.ensures (reached_part chart)
    (record { header_is = part_header chart h.header_is l.count; edges = l.edges; tested_are = l.tested_are })
