use Rattle.player.proofs.TooLarge.{SmallTo}
use Rattle.player.proofs.first_too_large.Given as goal

abbrev pub invariant-loop-j : goal.invariant-loop-j
invariant-loop-j l = SmallTo l.counts l.j
