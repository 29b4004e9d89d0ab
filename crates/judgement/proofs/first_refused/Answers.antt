-- `first_refused`: 9's place, where the version does not allow spare locations.
use mathlib.Core.Path.{sym, ◌∙◌}
use Rattle.judgement.proofs.Judging.{refused_none, refused_unreached}
use Rattle.judgement.proofs.first_refused.Goals as goal

pub returns-then-allows_spare : goal.returns-then-allows_spare
returns-then-allows_spare c = let m = c.args.header in
    refused_none m.version m.timers m.initial _ _ _ (sym c.allows_spare.ensures ∙ c.if-allows_spare.true)

pub returns : goal.returns
returns c = let m = c.args.header in
    c.first_unreached.ensures ∙ refused_unreached m.version m.timers m.initial _ _ _ (sym c.allows_spare.ensures ∙ c.if-allows_spare.false)
