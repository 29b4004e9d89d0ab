-- `propagate` meets its contract: the sets come by joins from the one set at q, and their sum grows until all links agree.
use Rattle.std.proofs.Common.{◌≡◌, ℕ, ◌<◌, length, get_or, length-set, refl, sym, ◌∙◌, arith, rules}
use Rattle.families.specs.Propagation.Joins.{none}
use Rattle.families.proofs.Sweeps.{ends_long, joins_trans, joins_small, empty_alone}
use Rattle.families.proofs.Propagated.{zeros, one_small, propagated_over}
use Rattle.families.proofs.propagate.Goals as goal

pub loop-next-init : goal.loop-next-init
loop-next-init c =
    let empty : (s : ℕ) → get_or c.fill.new.self s 0 ≡ 0 = zeros _ (c.fill.ensures.after (search rules)) in
    let inside : c.args.q < length c.fill.new.self = omega (arith, c.requires.1, c.fill.auto.self) in (
      ends_long (sym c.fill.auto.self ∙ sym (length-set c.fill.new.self c.args.q c.args.roots.bits)) c.requires.0,
      one_small c.fill.new.self c.args.q c.args.roots.bits inside empty (search rules),
      none,
      empty_alone c.fill.new.self c.args.q c.args.roots.bits inside empty,
    )

pub loop-next-smaller : goal.loop-next-smaller
loop-next-smaller c =
    let v = c.loop-next.invariant in
    let x = c.in-Some.ensures.swept in
    omega (arith, x.grows refl, joins_small _ v.0 (joins_trans _ v.2 x.joins) v.1)

pub loop-next-preserved : goal.loop-next-preserved
loop-next-preserved c =
    let v = c.loop-next.invariant in (v.0, v.1, joins_trans _ v.2 c.in-Some.ensures.swept.joins, c.in-Some.ensures.end)

pub returns-clause-families : goal.returns-clause-families
returns-clause-families c =
    let v = c.loop-next.invariant in
    let x = c.in_default.ensures.swept in
    let empty : (s : ℕ) → get_or c.fill.new.self s 0 ≡ 0 = zeros _ (c.fill.ensures.after (search rules)) in
    let inside : c.args.q < length c.fill.new.self = omega (arith, c.requires.1, c.fill.auto.self) in
    λ p formed long links. propagated_over c.fill.new.self c.args.q c.args.roots.bits inside empty v.0 p links _ (joins_trans _ v.2 x.joins)
    (x.same refl).1
