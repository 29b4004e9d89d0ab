use Rattle.twins.proofs.Alike.{Alike}
use Rattle.twins.proofs.lowest_in_same.Given as goal

abbrev pub invariant-loop-bits : goal.invariant-loop-bits
invariant-loop-bits l = Alike l.sets l.j l.bits-index l.alike.bits
