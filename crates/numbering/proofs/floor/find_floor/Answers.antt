-- `find_floor`: by the number of families.
use native.Mathlib.Omega.{arith}
use Rattle.numbering.proofs.FloorFound.{few_asked, few_found, many_found}
use Rattle.numbering.proofs.floor.find_floor.Goals as goal

pub returns-then-numbered : goal.returns-then-numbered
returns-then-numbered c chart a = many_found a (omega arith) c.fullest-most.ensures

pub fewest_timers-floor-requires : goal.fewest_timers-floor-requires
fewest_timers-floor-requires c = (_, few_asked c.requires.1 (omega arith) c.fullest-most.ensures)

pub returns : goal.returns
returns c chart a = few_found a (omega arith) (c.fewest_timers-floor.ensures _ (few_asked a (omega arith) c.fullest-most.ensures))
