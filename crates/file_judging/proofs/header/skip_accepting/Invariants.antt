use lib.ListN.{drop}
use Rattle.file_judging.proofs.Loops.{AcceptingRead}
use Rattle.file_judging.proofs.header.skip_accepting.Given as goal

abbrev pub invariant-loop-k : goal.invariant-loop-k
invariant-loop-k l = AcceptingRead l.locations l.n l._k l.lowest (drop l.at l.s) (drop l.here l.s)
