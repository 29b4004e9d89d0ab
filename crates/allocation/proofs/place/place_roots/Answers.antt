-- `place_roots` meets its contract: the families of the timers that the loop has taken have their numbers and are marked.
use mathlib.Core.Path.{◌≡◌, sym, ap, ◌∙◌, subst}
use Prim.Native.Nat.{ℕ, ◌+◌, ◌*◌}
use native.Mathlib.Omega.{arith}
use lib.ListN.{length}
use Rattle.timer_set.specs.Members.{member}
use Rattle.timer_set.proofs.Members.{member_empty}
use Rattle.allocation.specs.Turns.{NumberedTo}
use Rattle.allocation.proofs.InTurn.{turn_taken, unnumbered_kept, turns_to, turn_yes}
use Rattle.allocation.proofs.place.place_roots.Goals as goal

pub loop-j-preserved : goal.loop-j-preserved
loop-j-preserved c =
    let v = c.loop-j.invariant in
    let few = v.0.0.few_locations in
    let turn = turn_taken v.2.1 c.in-Some.ensures.steps in
    let number = c.place-number.ensures in
    let long : length c.place-number.new.cells ≡ 64 * length c.args.spread.sets.now = c.place-number.auto.cells ∙ v.0.0.cells_long in
    let wide = c.mark.auto.families_at ∙ v.0.2 in
    let kept = unnumbered_kept c.args.spread.sets.now c.in-Some.j c.place-number.result c.loop-j.cells c.place-number.new.cells number.cells in (
      (record { few_locations = few; cells_long = long; held_long = c.place-number.auto.held ∙ v.0.0.held_long }, number.held, wide),
      v.1,
      (
        c.in-Some.j + 1,
        turn.rest,
        omega (arith, v.2.2, turn.above),
        λ i h k n. kept i k (λ e. omega arith) (v.2.3 i (omega (arith, turn.above, h)) k n),
        λ p q g so.
            let before = turns_to g v.2.0 c.in-Some.j turn.above (omega (arith, turn.below)) turn.between
            c.loop-j.cells c.loop-j.families_at c.loop-j.next.used
            c.loop-j.next.families (v.2.4 p q g so) in
            subst (λ (u : ℕ). NumberedTo p (64 * q + (c.in-Some.j + 1)) c.place-number.new.cells c.mark.new.families_at u
            (c.loop-j.next.families + 1))
            (sym c.max.ensures)
            (turn_yes g c.in-Some.j turn.below c.loop-j.cells c.loop-j.families_at c.loop-j.next.used c.loop-j.next.families before turn.is_member few
            c.place-number.result number.number c.place-number.new.cells long number.cells v.0.2 c.mark.new.families_at wide c.mark.ensures),
      ),
    )

pub returns-clause-numbered : goal.returns-clause-numbered
returns-clause-numbered c =
    let v = c.loop-j.invariant in
    λ p q g so. turns_to g v.2.0 64 v.2.1.few (omega arith) (λ i h l. sym (v.2.1.same i h) ∙ ap (λ (w : ℕ). member w i) c.in-None.ensures.steps
    ∙ member_empty i) c.loop-j.cells c.loop-j.families_at c.loop-j.next.used c.loop-j.next.families (v.2.4 p q g so)
