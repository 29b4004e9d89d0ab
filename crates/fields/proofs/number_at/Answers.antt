-- `number_at` reads one byte after another, the highest first; the first that is not there ends it.
use native.Mathlib.Omega.{arith}
use mathlib.Core.Path.{◌∙◌}
use Prim.Native.Nat.{◌<◌}
use Rattle.fields.proofs.Numbers.{taken_none, taken_cut, taken_more, taken_fits}
use Rattle.fields.proofs.number_at.Goals as goal
use Rattle.fields.proofs.number_at.Goals.{After-from}

-- the byte that was read
byte_below : (c : After-from) → c.from.result < 256
byte_below c = omega (arith, c.from.ensures, c.in-Some.ensures.lookup.3.1 0, c.type_inv.s c.loop-k.next)

pub loop-k-init : goal.loop-k-init
loop-k-init c = taken_none c.args.s.now c.args.at

pub returns-in_default : goal.returns-in_default
returns-in_default c = taken_cut c.loop-k.invariant c.args.width c.loop-k-test.true c.in_default.ensures.lookup.3

pub overflow_mul-value : goal.overflow_mul-value
overflow_mul-value c = record { fits = omega (arith, taken_fits c.loop-k.invariant {b = 0} c.loop-k-test.true c.requires (omega arith)) }

pub overflow_add-value : goal.overflow_add-value
overflow_add-value c =
    let b = byte_below (goal.at.overflow_add-value c).After-from in
    record { fits = taken_fits c.loop-k.invariant c.loop-k-test.true c.requires b }

pub loop-k-preserved : goal.loop-k-preserved
loop-k-preserved c =
    let b = byte_below (goal.at.loop-k-preserved c).After-from in
    taken_more c.loop-k.invariant c.in-Some.ensures.lookup.3.0 (c.from.ensures ∙ c.in-Some.ensures.lookup.3.1 0) b
