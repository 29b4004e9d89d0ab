use Rattle.fields.proofs.Numbers.{Taken}
use Rattle.fields.proofs.number_at.Given as goal

abbrev pub invariant-loop-k : goal.invariant-loop-k
invariant-loop-k l = Taken l.s l.at l.value l.next l._k
