-- `move_tests` meets its contract: the library's method moves the entries of each list.
use mathlib.Core.Path.{◌∙◌}
use native.Mathlib.Omega.{arith}
use Rattle.spare.proofs.Moved.{moved_within}
use Rattle.spare.proofs.move_tests.Goals as goal

pub returns : goal.returns
returns c = record {
  timers = c.copy_within.ensures.after ∙ moved_within _ _ _ _ (omega arith) (omega arith);
  codes = c.copy_within-2.ensures.after ∙ moved_within _ _ _ _ (omega arith) (omega arith);
  constants = c.copy_within-3.ensures.after ∙ moved_within _ _ _ _ (omega arith) (omega arith);
}
