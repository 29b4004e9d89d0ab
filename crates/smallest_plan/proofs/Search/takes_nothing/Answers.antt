-- `takes_nothing` meets its contract.
use Rattle.smallest_plan.proofs.Search.takes_nothing.Goals as goal

pub returns : goal.returns
returns c = cc
