-- `first_too_large` looks at one count a turn.
use native.Mathlib.Omega.{arith}
use Rattle.player.proofs.TooLarge.{small_none, small_more, large_here, large_none}
use Rattle.player.proofs.first_too_large.Goals as goal

pub loop-j-init : goal.loop-j-init
loop-j-init c = small_none _

pub returns-then-from-gt-LARGEST_TIME : goal.returns-then-from-gt-LARGEST_TIME
returns-then-from-gt-LARGEST_TIME c =
    large_here _ c.loop-j.j (omega arith) (omega (arith, c.from.ensures, c.if-from-gt-LARGEST_TIME.true)) c.loop-j.invariant

pub loop-j-preserved : goal.loop-j-preserved
loop-j-preserved c = small_more _ c.loop-j.j (omega (arith, c.from.ensures, c.if-from-gt-LARGEST_TIME.false)) c.loop-j.invariant

pub returns : goal.returns
returns c = large_none _ c.loop-j.j (omega arith) c.loop-j.invariant
