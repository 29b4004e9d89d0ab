-- `with_number` meets its contract: a number below 64 is added, another is not.
use mathlib.Core.Path.{sym, ◌∙◌}
use Rattle.renaming.proofs.Sets.{with_yes, with_no}
use Rattle.renaming.proofs.with_number.Goals as goal

pub returns-then-number-lt64 : goal.returns-then-number-lt64
returns-then-number-lt64 c = c.with.ensures ∙ sym (with_yes _ _ c.if-number-lt64.true)

pub returns-else-number-lt64 : goal.returns-else-number-lt64
returns-else-number-lt64 c = sym (with_no _ _ c.if-number-lt64.false)
