-- `skip_accepting` reads one accepting location after another; each is above the one before it.
use mathlib.Core.Path.{sym}
use native.Mathlib.Omega.{arith}
use lib.ListN.{drop}
use Rattle.file_judging.proofs.Loops.{entry_within, accepting_first, accepting_done, accepting_refused, accepting_again}
use Rattle.file_judging.proofs.header.skip_accepting.Goals as goal

pub loop-k-init : goal.loop-k-init
loop-k-init c = accepting_first c.args.locations c.args.n (drop c.args.at c.args.s.now)

pub returns-in_default : goal.returns-in_default
returns-in_default c = rw c.in_default.is (accepting_refused c.loop-k.invariant c.loop-k-test.true (sym c.in_default.ensures))

pub overflow_add-lowest : goal.overflow_add-lowest
overflow_add-lowest c = omega (arith, entry_within _ _ _ _ _ _ (sym c.in-Ok.ensures))

pub loop-k-preserved : goal.loop-k-preserved
loop-k-preserved c = accepting_again c.loop-k.invariant c.loop-k-test.true (sym c.in-Ok.ensures)

pub returns : goal.returns
returns c = rw c.from.ensures (accepting_done c.loop-k.invariant c.loop-k-test.false)
