-- `starts_at` puts one started timer after another into a set; each is above the one before it.
use mathlib.Core.Path.{◌≡◌, sym}
use lib.ListN.{drop}
use Rattle.file_format.specs.Parse.{value, below}
use Rattle.fields.proofs.StartsLoop.{starts_first, starts_done, starts_refused, starts_low, starts_again}
use Rattle.fields.proofs.record.starts_at.Goals as goal
use Rattle.fields.proofs.record.starts_at.Goals.{In-Ok}

-- the timer that was read
timer : (c : In-Ok) → below 1 c.args.timers 6 c.args.place (drop c.loop-k.here c.args.s.now) ≡ value c.in-Ok.x (drop c.in-Ok.next c.args.s.now)
timer c = rw c.from.ensures at (sym c.in-Ok.ensures)

pub loop-k-init : goal.loop-k-init
loop-k-init c = starts_first c.args.timers c.args.place c.args.s.now c.args.at c.args.n

pub returns-in_default : goal.returns-in_default
returns-in_default c =
    rw c.in_default.is (starts_refused c.loop-k.invariant c.loop-k-test.true (rw c.from.ensures at (sym c.in_default.ensures)))

pub returns-then-x-lowest : goal.returns-then-x-lowest
returns-then-x-lowest c = starts_low c.loop-k.invariant c.loop-k-test.true (timer (goal.at.returns-then-x-lowest c).In-Ok) c.if-x-lowest.true

pub loop-k-preserved : goal.loop-k-preserved
loop-k-preserved c = rw c.with-set.ensures
    (starts_again c.loop-k.invariant c.loop-k-test.true (timer (goal.at.loop-k-preserved c).In-Ok) c.if-x-lowest.false)

pub returns : goal.returns
returns c = starts_done c.loop-k.invariant c.loop-k-test.false
