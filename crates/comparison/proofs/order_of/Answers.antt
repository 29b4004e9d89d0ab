use Rattle.std.proofs.Common.{arith}
use Rattle.comparison.specs.Order.{below, above}
use Rattle.comparison.proofs.Comparisons.{order_at}
use Rattle.comparison.proofs.order_of.Goals as goal

pub returns-then-count-constant : goal.returns-then-count-constant
returns-then-count-constant c = below (omega arith)

pub returns-then-count-constant-2 : goal.returns-then-count-constant-2
returns-then-count-constant-2 c = order_at c.if-count-constant-2.true c.if-count-constant.false

pub returns-else-count-constant-2 : goal.returns-else-count-constant-2
returns-else-count-constant-2 c = above (omega arith)
