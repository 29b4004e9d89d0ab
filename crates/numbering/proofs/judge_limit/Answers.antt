-- `judge_limit` meets its contract: all numbers of a board of K timers are held exactly where more than K are used.
use Rattle.numbering.proofs.Limits.{too_large_lem, too_small, enough}
use Rattle.numbering.proofs.judge_limit.Goals as goal

pub returns-then-k-gt64 : goal.returns-then-k-gt64
returns-then-k-gt64 c = too_large_lem _ _ c.if-k-gt64.true

pub returns-then-used-k : goal.returns-then-used-k
returns-then-used-k c = too_small _ _ c.if-k-gt64.false c.if-used-k.true

pub returns : goal.returns
returns c = enough _ _ c.if-k-gt64.false c.if-used-k.false
