-- `narrow` meets its contract.
use mathlib.Core.Path.{sym, ◌∙◌}
use Rattle.twins.proofs.Alike.{narrowed_yes, narrowed_no}
use Rattle.twins.proofs.narrow.Goals as goal

pub returns-then-has : goal.returns-then-has
returns-then-has c = c.common.ensures ∙ sym (narrowed_yes _ _ _ (sym c.has.ensures ∙ c.if-has.true))

pub returns-else-has : goal.returns-else-has
returns-else-has c = c.minus.ensures ∙ sym (narrowed_no _ _ _ (sym c.has.ensures ∙ c.if-has.false))
