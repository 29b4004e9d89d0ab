use Rattle.controller.proofs.StartHeads.{StandTo}
use Rattle.controller.proofs.start.start_heads.Given as goal

abbrev pub invariant-loop-h : goal.invariant-loop-h
invariant-loop-h l = StandTo l.headers l.h l.heads
