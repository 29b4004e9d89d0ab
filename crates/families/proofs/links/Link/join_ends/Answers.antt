-- `join_ends` meets its contract: nothing is lacking exactly where both ends have the same of the link's timers.
use mathlib.Core.Path.{sym, ◌∙◌}
use borrow.Author.Tests.{eqb-true, eq-eqb}
use Rattle.lists.proofs.Bools.{not_both}
use Rattle.families.specs.Propagation.{join_along}
use Rattle.families.proofs.Growth.{lacked_is, ends_same, ends_grew}
use Rattle.families.proofs.links.Link.join_ends.Goals as goal

pub returns-then-is_empty : goal.returns-then-is_empty
returns-then-is_empty c = let e = lacked_is _ _ _ c.join.ensures c.common-either.ensures
    c.common-both.ensures c.minus.ensures in
    ends_same c.args.sets.now c.args.self.one c.args.self.other c.args.self.timers.bits
    (sym e ∙ eqb-true _ 0 (sym c.is_empty.ensures ∙ c.if-is_empty.true))

pub returns : goal.returns
unfolding join_along
returns c = let e = lacked_is _ _ _ c.join.ensures c.common-either.ensures c.common-both.ensures c.minus.ensures in
    rw (c.join-3.ensures, c.join-2.ensures, c.common-either.ensures, c.join.ensures)
    (ends_grew c.args.sets.now c.args.self.one c.args.self.other c.args.self.timers.bits c.requires.0 c.requires.1
    (λ n. not_both (c.is_empty.ensures ∙ eq-eqb _ 0 (e ∙ n)) c.if-is_empty.false))
