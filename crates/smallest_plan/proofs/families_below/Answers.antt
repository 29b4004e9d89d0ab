-- `families_below` meets its contract: nothing is cut off by the shift.
use Prim.Native.Nat.{◌^◌, ◌<◌}
use native.Mathlib.Omega.{arith}
use lib.Pow.{pow-lt, pow_pos}
use Rattle.smallest_plan.proofs.families_below.Goals as goal

pub overflow_sub-result : goal.overflow_sub-result
overflow_sub-result c = omega (
  arith,
  pow_pos c.args.n,
  (let small' : 2 ^ c.args.n < 2 ^ 64 = pow-lt {j = 64} (omega arith) in
      small'),
)

pub returns : goal.returns
returns c = omega (
  arith,
  (let small' : 2 ^ c.args.n < 2 ^ 64 = pow-lt {j = 64} (omega arith) in
      small'),
)
