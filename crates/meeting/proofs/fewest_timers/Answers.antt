-- `fewest_timers` meets its contract: the smallest plan for the rows has the fewest timers.
use mathlib.Core.Path.{◌≡◌}
use native.Mathlib.Omega.{arith}
use Rattle.model.specs.SmallestPlan.{fewest}
use Rattle.meeting.proofs.Plans.{rows_mutual, bounds, smallest_is}
use Rattle.meeting.proofs.fewest_timers.Goals as goal

pub smallest-requires : goal.smallest-requires
smallest-requires c =
    let q = c.requires.1 in
    let r = c.meeting_rows-rows.ensures c.requires.0 c.args.low c.args.high q in
    (q.few, omega (arith, q.high_few, q.few), rows_mutual r q.count_is, bounds r q.count_is q.low_is q.high_is)

pub returns : goal.returns
returns c = λ fs q.
    smallest_is (c.meeting_rows-rows.ensures fs c.args.low c.args.high q) q.count_is c.smallest.ensures

pub overflow_cast-result : goal.overflow_cast-result
overflow_cast-result c = let e : c.smallest.result ≡ fewest c.requires.0 = returns c c.requires.0 c.requires.1 in
    record { fits = omega (arith, e, c.requires.1.high_is, c.requires.1.high_few, c.requires.1.few) }
