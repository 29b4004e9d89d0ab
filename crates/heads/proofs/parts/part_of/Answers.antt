-- `part_of` cuts the list at both ends of the part.
use Rattle.heads.proofs.Lengths.{part_between}
use Rattle.heads.proofs.parts.part_of.Goals as goal

pub returns : goal.returns
returns g c = part_between c.args.lengths c.args.h c.args.list.now c.begin_of-begin.ensures c.end_of-end.ensures
