use Prim.Native.Nat.{◌+◌}
use Rattle.chart_lists.specs.Stored.{lists_in}
use Rattle.list_judging.proofs.Turns.{TestsTurn}
use Rattle.list_judging.proofs.transition.judge_tests.Given as goal

abbrev pub invariant-loop-t : goal.invariant-loop-t
invariant-loop-t l = TestsTurn (lists_in l.lists) l.limit l.place l.k l.g (l.k + l.t) l.t
