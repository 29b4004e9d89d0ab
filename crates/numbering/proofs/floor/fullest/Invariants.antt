use mathlib.Core.Path.{◌≡◌}
use Prim.Native.Nat.{max}
use lib.ListN.{drop}
use Rattle.model.specs.Live.{fullest}
use Rattle.numbering.proofs.floor.fullest.Given as goal

abbrev pub invariant-loop-bits : goal.invariant-loop-bits
invariant-loop-bits l = max l.most (fullest (drop l.bits-index l.sets)) ≡ fullest l.sets
