use Rattle.std.proofs.Common.{◌≡◌, min}
use Rattle.controller_model.specs.Parts.{offset}
use Rattle.heads.proofs.parts.begin_of.Given as goal

abbrev pub invariant-loop-g : goal.invariant-loop-g
invariant-loop-g l = l.at ≡ min (offset l.lengths l.g) l.entries
