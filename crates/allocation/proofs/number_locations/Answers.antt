-- `number_locations` meets its contract: the families that begin at the locations below q have their numbers. What is hard stands in Locations; here
-- it is only carried through four calls.
use mathlib.Core.Path.{◌≡◌, sym, ◌∙◌, subst}
use Prim.Native.Nat.{ℕ, ◌*◌}
use native.Mathlib.Omega.{arith}
use Rattle.lists.proofs.Bools.{same_number}
use Rattle.allocation.specs.Rows.{Lengths, WordsAgree}
use Rattle.allocation.specs.Turns.{NumberedTo}
use Rattle.allocation.proofs.Placing.{numbered_none, families_few}
use Rattle.allocation.proofs.Words.{words_none}
use Rattle.allocation.proofs.Locations.{placed_none, numbered_skip, placed_skip, roots_here, roots_ready, placed_more}
use Rattle.allocation.proofs.number_locations.Goals as goal
use Rattle.allocation.proofs.number_locations.Goals.{then-not-is_empty, else-not-is_empty}

pub loop-q-init : goal.loop-q-init
loop-q-init c = (
  c.requires.0,
  c.requires.1,
  (c.requires.2.sets_long, c.requires.2.placed_long, c.requires.2.cells_long, c.requires.2.held_long, c.requires.2.at_long),
  words_none _ _ _ c.requires.2.none_held c.requires.2.none_numbered,
  λ p d.
      let clear = numbered_none p c.args.cells.now c.args.families_at.now (omega (arith, c.requires.2.cells_long, d.locations_are)) in
      (clear (λ x h. c.requires.2.none_numbered x (omega (arith, d.locations_are))) c.requires.2.none_at, placed_none c.requires.2.none_placed),
)

pub place_roots-counts-requires : goal.place_roots-counts-requires
place_roots-counts-requires c = let v = c.loop-q.invariant in let n = v.4 v.0.0 v.0.1 in
    let lengths : Lengths c.propagate-end.new.sets c.loop-q.cells c.loop-q.held = record {
      few_locations = omega (arith, (c.propagate-end.auto.sets ∙ v.2.0), v.1.few_locations);
      cells_long = omega (arith, (c.propagate-end.auto.sets ∙ v.2.0), v.2.2);
      held_long = v.2.3;
    } in (
      roots_ready v.0.1 c.loop-q.q c.loop-q-test.true n.1 c.minus-roots.result.bits c.minus-roots.ensures c.propagate-end.new.sets
          (c.propagate-end.auto.sets ∙ v.2.0)
          (c.propagate-end.ensures.families v.0.0 v.0.1.formed (v.0.1.locations_are ∙ sym v.2.0) v.0.1.links_are)
          c.loop-q.cells c.loop-q.held c.propagate-end.result n.0 lengths
          (subst (WordsAgree c.loop-q.cells c.loop-q.held) (sym (c.propagate-end.auto.sets ∙ v.2.0)) v.3)
          c.propagate-end.ensures.end,
      v.2.4 ∙ sym (c.propagate-end.auto.sets ∙ v.2.0),
      omega (arith, n.0.count_is, families_few v.0.1.formed (64 * c.loop-q.q), c.loop-q-test.true, v.1.few_locations),
    )

pub loop-q-preserved : goal.loop-q-preserved
loop-q-preserved c = let v = c.loop-q.invariant in elim c.if-not-is_empty.branch [
  | then-not-is_empty w ↦ let wide = w.join_sets.auto.all ∙ v.2.1 in
      rw (w.sets-is, w.placed-is, w.cells-is, w.held-is, w.families_at-is, w.counts-is) (
        v.0,
        v.1,
        (
          (w.propagate-end.auto.sets ∙ v.2.0),
          wide,
          w.place_roots-counts.auto.cells ∙ v.2.2,
          w.place_roots-counts.auto.held ∙ v.2.3,
          w.place_roots-counts.auto.families_at ∙ v.2.4,
        ),
        subst (WordsAgree w.place_roots-counts.new.cells w.place_roots-counts.new.held) (w.propagate-end.auto.sets ∙ v.2.0)
            w.place_roots-counts.ensures.held,
        λ p d. let n = v.4 p d in
            let s = (w.propagate-end.ensures.families p d.formed (d.locations_are ∙ sym v.2.0) d.links_are) in (
              subst (λ (y : ℕ). NumberedTo p y w.place_roots-counts.new.cells w.place_roots-counts.new.families_at w.place_roots-counts.result.used
                  w.place_roots-counts.result.families)
                  (omega arith)
                  (w.place_roots-counts.ensures.numbered p c.loop-q.q
                  (roots_here d c.loop-q.q c.loop-q-test.true n.1 c.minus-roots.result.bits c.minus-roots.ensures w.propagate-end.new.sets
                  (w.propagate-end.auto.sets ∙ v.2.0) s) n.0),
              placed_more d c.loop-q.q c.loop-q-test.true n.1 c.minus-roots.result.bits c.minus-roots.ensures w.propagate-end.new.sets
                  (w.propagate-end.auto.sets ∙ v.2.0) s w.join_sets.new.all wide w.join_sets.ensures,
            ),
      )
  | else-not-is_empty w ↦ let e : c.minus-roots.result.bits ≡ 0 = same_number (sym c.is_empty.ensures ∙ w.if-not-is_empty.false) in
      rw (w.sets-is, w.placed-is, w.cells-is, w.held-is, w.families_at-is, w.counts-is) (
        v.0,
        v.1,
        v.2,
        v.3,
        λ p d. let n = v.4 p d in (
          numbered_skip d c.loop-q.q c.loop-q-test.true n.1 c.minus-roots.result.bits c.minus-roots.ensures e _ _ _ _ n.0,
          placed_skip d c.loop-q.q c.loop-q-test.true n.1 c.minus-roots.result.bits c.minus-roots.ensures e,
        ),
      )
]
