use mathlib.Core.Path.{◌≡◌}
use lib.ListN.{length, drop}
use Rattle.filling.proofs.AcceptingLoop.{AcceptingFilled}
use Rattle.filling.proofs.fill_accepting.Given as goal

abbrev pub invariant-loop-k : goal.invariant-loop-k
invariant-loop-k l =
    (length l.accepting ≡ length l.initial.accepting) × AcceptingFilled l.locations l.n l.k l.lowest (drop l.at l.s) (drop l.here l.s)
    l.initial.accepting l.accepting
