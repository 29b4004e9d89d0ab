-- `test_met` decides by the table of the comparison that the code stands for.
use mathlib.Core.Path.{ap}
use Rattle.comparison.specs.declared.Comparison.{Comparison}
use Rattle.comparison.specs.Comparison.{met}
use Rattle.steps.proofs.TestTurns.{decoded_known, decoded_unknown}
use Rattle.steps.proofs.tests.test_met.Goals as goal

pub returns-in_default : goal.returns-in_default
returns-in_default c x e = absurd (decoded_unknown x _ c.in_default.ensures e)

pub returns : goal.returns
returns c x e =
    let y = decoded_known _ c.in-Ok.ensures e in
    rw (c.holds.ensures, c.from.ensures, c.from-2.ensures) (ap (λ (z : Comparison). met z c.args.count c.args.constant) y)
