-- `constant_at` reads two bytes where the version's width is 2, and four where it is not: there is no third width.
use mathlib.Core.Path.{◌≡◌, sym, ◌∙◌, subst}
use mathlib.Core.List.{List}
use Prim.Native.Nat.{ℕ}
use Rattle.std.specs.Prelude.{Result}
use Rattle.model.proofs.Versions.{width_not_two}
use Rattle.refusal.specs.declared.Refusal.{Refusal}
use Rattle.fields.specs.Meaning.{NumberAt}
use Rattle.fields.proofs.test.constant_at.Goals as goal

-- the same number in as many bytes
as_many : {w W : ℕ} {s : List ℕ} {at : ℕ} {r : Result (ℕ × ℕ) Refusal} → w ≡ W → NumberAt w s at r → NumberAt W s at r
as_many {s} {at} {r} e h = subst (λ (n : ℕ). NumberAt n s at r) e h

pub returns-then-width_of-eq2 : goal.returns-then-width_of-eq2
returns-then-width_of-eq2 c = as_many (sym c.if-width_of-eq2.true ∙ c.width_of.ensures) c.number_at.ensures

pub returns-else-width_of-eq2 : goal.returns-else-width_of-eq2
returns-else-width_of-eq2 c =
    as_many (sym (width_not_two _ (λ e. c.if-width_of-eq2.false (c.width_of.ensures ∙ e)))) c.number_at-else-width_of-eq2.ensures
