use Rattle.list_judging.proofs.Turns.{AcceptingTurn}
use Rattle.list_judging.proofs.judge_accepting.Given as goal

abbrev pub invariant-loop-k : goal.invariant-loop-k
invariant-loop-k l = AcceptingTurn l.locations l.accepting l.n l.lowest l.k
