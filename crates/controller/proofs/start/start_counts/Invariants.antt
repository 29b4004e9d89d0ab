use Rattle.std.proofs.Common.{◌≡◌}
use Rattle.controller_model.specs.Heads.{head_counts}
use Rattle.controller_model.specs.Controlling.{start_counts}
use Rattle.controller.proofs.start.start_counts.Given as goal

abbrev pub invariant-loop-h : goal.invariant-loop-h
invariant-loop-h l = l.all ≡ start_counts l.blocks (head_counts l.counts l.parts) l.h
