-- `skip_records` reads one record after another and counts their tests: at most 8 of each, so that the sum fits.
use mathlib.Core.Path.{◌≡◌, sym}
use native.Mathlib.Omega.{arith}
use lib.ListN.{drop}
use Rattle.model.specs.Version.{width_of}
use Rattle.file_format.specs.Parse.{value}
use Rattle.file_judging.specs.Parts.{skip_transition}
use Rattle.file_judging.proofs.RecordParts.{skip_at_most}
use Rattle.file_judging.proofs.Loops.{counted_first, counted_done, counted_refused, counted_again}
use Rattle.file_judging.proofs.records.skip_records.Goals as goal
use Rattle.file_judging.proofs.records.skip_records.Goals.{In-Ok}

-- the record that was skipped
skipped : (c : In-Ok)
    → skip_transition (width_of c.args.chart.version) c.args.chart.locations c.args.chart.timers c.loop-i.i (drop c.loop-i.here c.args.s.now)
    ≡ value c.in-Ok.g (drop c.in-Ok.next c.args.s.now)
skipped c = rw c.from.ensures at (sym c.in-Ok.ensures)

pub loop-i-init : goal.loop-i-init
loop-i-init c =
    counted_first (width_of c.args.chart.version) c.args.chart.locations c.args.chart.timers c.args.chart.transitions (drop c.args.at c.args.s.now)

pub returns-in_default : goal.returns-in_default
returns-in_default c =
    rw c.in_default.is (counted_refused c.loop-i.invariant c.loop-i-test.true (rw c.from.ensures at (sym c.in_default.ensures)))

pub overflow_add-tests : goal.overflow_add-tests
overflow_add-tests c =
    omega (arith, c.loop-i.invariant.few, skip_at_most _ _ _ _ _ (skipped (goal.at.overflow_add-tests c).In-Ok))

pub loop-i-preserved : goal.loop-i-preserved
loop-i-preserved c = counted_again c.loop-i.invariant c.loop-i-test.true (skipped (goal.at.loop-i-preserved c).In-Ok)

pub returns : goal.returns
returns c = counted_done c.loop-i.invariant c.loop-i-test.false
