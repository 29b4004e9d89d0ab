-- `put_constant` meets its contract: two bytes or four, as the version's width is. Nothing is cut, since the constant fits.
use mathlib.Core.Path.{sym, ap, ◌∙◌, subst}
use Prim.Native.Nat.{ℕ, ◌≤◌, ◌<◌, ◌^◌}
use native.Mathlib.Omega.{arith}
use lib.ListN.{length}
use Rattle.model.proofs.Versions.{width_not_two}
use Rattle.file_format.specs.Parse.{digits}
use Rattle.chart_lists.specs.Lists.{put}
use Rattle.writer.proofs.fields.put_constant.Goals as goal

pub overflow_cast-v : goal.overflow_cast-v
overflow_cast-v c =
    let two = sym c.if-width_of-eq2.true ∙ c.width_of.ensures in
    let fits = subst (λ (W : ℕ). c.args.v < 256 ^ W) (sym two) c.requires.1 in
    omega (arith, fits)

pub put_quad-requires : goal.put_quad-requires
put_quad-requires c =
    let four = width_not_two _ (λ e. c.if-width_of-eq2.false (c.width_of.ensures ∙ e)) in
    subst (λ (W : ℕ). W ≤ length c.args.out.now) four c.requires.0

pub returns-then-width_of-eq2 : goal.returns-then-width_of-eq2
returns-then-width_of-eq2 c =
    let two = sym c.if-width_of-eq2.true ∙ c.width_of.ensures in
    c.put_pair.ensures ∙ ap (λ (W : ℕ). put (digits W c.args.v) c.args.out.now) two

pub returns-else-width_of-eq2 : goal.returns-else-width_of-eq2
returns-else-width_of-eq2 c =
    let four = width_not_two _ (λ e. c.if-width_of-eq2.false (c.width_of.ensures ∙ e)) in
    c.put_quad.ensures ∙ ap (λ (W : ℕ). put (digits W c.args.v) c.args.out.now) (sym four)
