-- `skip_tests` reads one test after another and keeps their number.
use mathlib.Core.Path.{sym}
use Rattle.model.specs.Version.{width_of}
use Rattle.file_judging.proofs.TestsLoop.{tests_begin, tests_done, tests_refused, tests_again}
use Rattle.file_judging.proofs.records.skip_tests.Goals as goal

pub loop-k-init : goal.loop-k-init
loop-k-init c = tests_begin (width_of c.args.chart.version) c.args.chart.timers c.args.place c.args.s.now c.args.at c.args.g

pub returns-in_default : goal.returns-in_default
returns-in_default c = tests_refused c.loop-k.invariant c.loop-k-test.true (sym (rw c.unwrap_err.ensures at c.test_at-a.ensures))

pub loop-k-preserved : goal.loop-k-preserved
loop-k-preserved c = tests_again c.loop-k.invariant c.loop-k-test.true (sym c.in-Ok.ensures)

pub returns : goal.returns
returns c = rw c.from.ensures (tests_done c.loop-k.invariant c.loop-k-test.false)
