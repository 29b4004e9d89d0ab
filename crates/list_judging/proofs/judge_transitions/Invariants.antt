use Prim.Native.Nat.{◌*◌, ◌≤◌}
use Rattle.chart_lists.specs.Stored.{lists_in}
use Rattle.list_judging.proofs.Turns.{TransitionsTurn}
use Rattle.list_judging.proofs.judge_transitions.Given as goal

abbrev pub invariant-loop-i : goal.invariant-loop-i
invariant-loop-i l = TransitionsTurn (lists_in l.lists) l.header.locations l.header.timers l.header.transitions l.sum.starts l.sum.tests l.i
    × (l.sum.starts ≤ 64 * l.i)
    × (l.sum.tests ≤ 8 * l.i)
