-- `shared_cell` meets its contract.
use mathlib.Core.Path.{sym, ◌∙◌}
use native.Mathlib.Omega.{arith}
use Rattle.twins.proofs.Sharing.{shared_yes, shared_no}
use Rattle.twins.proofs.LowestTwins.shared_cell.Goals as goal

pub bounds-self-j : goal.bounds-self-j
bounds-self-j c = c.requires.0.listed _ (sym c.has.ensures ∙ c.if-has.true)

pub overflow_cast-result-then-has : goal.overflow_cast-result-then-has
overflow_cast-result-then-has c = record { fits = omega (arith, (c.requires.0.low _ (sym c.has.ensures ∙ c.if-has.true))) }

pub overflow_add-result : goal.overflow_add-result
overflow_add-result c = record { fits = omega (arith, (c.requires.0.low _ (sym c.has.ensures ∙ c.if-has.true))) }

pub offset_bounds-cells-q : goal.offset_bounds-cells-q
offset_bounds-cells-q c = record { fits = omega (arith, (c.requires.0.low _ (sym c.has.ensures ∙ c.if-has.true))) }

pub bounds-cells-q : goal.bounds-cells-q
bounds-cells-q c = omega (arith, (c.requires.0.low _ (sym c.has.ensures ∙ c.if-has.true)))

pub returns-then-has : goal.returns-then-has
returns-then-has c = sym (shared_yes _ _ _ _ _ (sym c.has.ensures ∙ c.if-has.true))

pub returns-else-has : goal.returns-else-has
returns-else-has c = sym (shared_no _ _ _ _ _ (sym c.has.ensures ∙ c.if-has.false))
