-- `make_rounds` makes the first round over all edges, and each round after it over those that leave changed locations. What is hard stands in Turns.
use Rattle.std.proofs.Common.{◌≡◌, List, ℕ, ◌+◌, ◌≤◌, length, replicate, refl, sym, ap, ◌∙◌, arith, rules}
use lib.ListN.{length-replicate}
use Rattle.std.proofs.lemmas.List.{length-take}
use Rattle.std.proofs.lemmas.Grind.{elements}
use Rattle.chart_lists.specs.Limits.{most_locations}
use Rattle.worklist.specs.GoneOver.{GoneOver}
use Rattle.worklist.proofs.Waiting.{worklist_none}
use Rattle.flow.specs.Edges.{flow_of}
use Rattle.flow.specs.Rounds.{LeavesOne}
use Rattle.flow.proofs.EdgeLists.{shaped_lists, few_rounds}
use Rattle.flow.proofs.Turns.{before_long, after_long, goes_on, ends_here, turn_first, turn_next}
use Rattle.flow.proofs.make_rounds.Goals as goal
use Rattle.flow.proofs.make_rounds.Goals.{After-take_over}

-- a list of empty sets is as long as it was made
zeros_long : (sets : List ℕ) (n : ℕ) → sets ≡ replicate n 0 → length sets ≡ n
zeros_long sets n e = ap length e ∙ length-replicate {A = ℕ} n 0

-- where as many locations are gone over as have changed, those are all
all_gone : {from into cut list sets idle after idleAfter : List ℕ} {stood : ℕ → ℕ} {depth : ℕ}
    → GoneOver from into cut (LeavesOne from list (length list)) stood sets idle after idleAfter → length list ≡ depth
    → GoneOver from into cut (LeavesOne from list depth) stood sets idle after idleAfter
all_gone over long = rw long at over

room : (c : After-take_over) → c.loop-depth.depth ≤ length c.take_over.new.changed
room c =
    let v = c.loop-depth.invariant in omega (arith, v.3.differing.worklist.room, v.1, v.2, c.take_over.auto.changed)

pub copy_from_slice-requires : goal.copy_from_slice-requires
copy_from_slice-requires c = c.requires.1 ∙ sym (zeros_long _ _ c.requires.2)

pub first_round-requires : goal.first_round-requires
first_round-requires c = (c.requires.0.gains, zeros_long _ _ c.requires.2, c.requires.0.into_below)

pub push_nonempty-depth-requires : goal.push_nonempty-depth-requires
push_nonempty-depth-requires c =
    let few : length c.first_round.new.after ≤ most_locations =
    omega (arith, c.first_round.auto.after ∙ zeros_long _ _ c.requires.2, c.requires.0.locations) in
    (few, worklist_none _ most_locations _ few (search rules))

pub loop-depth-init : goal.loop-depth-init
unfolding flow_of
loop-depth-init c =
    let a = c.args in
    let waits = rw (c.first_round.auto.after ∙ zeros_long _ _ c.requires.2) at c.push_nonempty-depth.ensures.waits in (
      search rules,
      search rules,
      refl,
      turn_first {f = flow_of a.into.now a.from.now a.cut.now a.gain.now a.own.now} (c.copy_from_slice.ensures.after ∙ c.requires.2)
          (c.first_round.ensures _ _) waits c.push_nonempty-depth.ensures.empty,
    )

pub take_over-requires : goal.take_over-requires
take_over-requires c =
    let v = c.loop-depth.invariant in
    (v.3.differing, omega (arith, v.3.differing.worklist.room, v.1, v.2))

pub next_round-depth-requires : goal.next_round-depth-requires
unfolding flow_of
next_round-depth-requires c =
    let v = c.loop-depth.invariant in
    let fits = room (goal.at.next_round-depth-requires c).After-take_over in (
      (c.args.from.now, rw (after_long v.3) c.requires.3),
      ap length c.take_over.ensures.sets,
      (λ k l. grind (arith, elements, c.take_over.ensures.changed, v.3.differing.worklist.below, fits)),
      c.take_over.ensures.none,
    )

pub overflow_add-count : goal.overflow_add-count
overflow_add-count c =
    let shaped = shaped_lists _ _ _ _ _ c.requires.0 (λ i. (c.type_inv.gain i).fits) (λ i. (c.type_inv.own i).fits) in
    let few = few_rounds _ _ _ _ _ shaped (c.loop-depth.count + 1) (goes_on c.loop-depth.invariant.3 c.loop-depth-test.true) in
    omega (arith, few, c.requires.0.locations)

pub loop-depth-smaller : goal.loop-depth-smaller
loop-depth-smaller c =
    let shaped = shaped_lists _ _ _ _ _ c.requires.0 (λ i. (c.type_inv.gain i).fits) (λ i. (c.type_inv.own i).fits) in
    omega (arith, few_rounds _ _ _ _ _ shaped (c.loop-depth.count + 1) (goes_on c.loop-depth.invariant.3 c.loop-depth-test.true))

pub loop-depth-preserved : goal.loop-depth-preserved
unfolding flow_of
loop-depth-preserved c =
    let v = c.loop-depth.invariant in
    let shaped = shaped_lists _ _ _ _ _ c.requires.0 (λ i. (c.type_inv.gain i).fits) (λ i. (c.type_inv.own i).fits) in
    let e = c.next_round-depth.ensures in
    let fits = room (goal.at.loop-depth-preserved c).After-take_over in (
      search rules,
      search rules,
      search rules,
      turn_next c.requires.0 shaped v.3 c.loop-depth-test.true
          (λ i b. grind (arith, elements, c.take_over.ensures.changed)) c.take_over.ensures.sets
          (all_gone (e.over c.args.from.now (rw (after_long v.3) c.requires.3)) (rw length-take (omega (arith, fits)))) e.worklist e.less
          (λ q. (c.type_inv.after q).fits),
    )

pub overflow_add-result : goal.overflow_add-result
overflow_add-result c =
    let shaped = shaped_lists _ _ _ _ _ c.requires.0 (λ i. (c.type_inv.gain i).fits) (λ i. (c.type_inv.own i).fits) in
    omega (arith, few_rounds _ _ _ _ _ shaped c.loop-depth.count c.loop-depth.invariant.3.changes, c.requires.0.locations)

pub shape_of-sets : goal.shape_of-sets
unfolding flow_of
shape_of-sets c = before_long c.loop-depth.invariant.3 ∙ sym c.requires.1

pub shape_of-after : goal.shape_of-after
unfolding flow_of
shape_of-after c = after_long c.loop-depth.invariant.3 ∙ sym (zeros_long _ _ c.requires.2)

pub returns : goal.returns
returns c =
    let shaped = shaped_lists _ _ _ _ _ c.requires.0 (λ i. (c.type_inv.gain i).fits) (λ i. (c.type_inv.own i).fits) in
    let r = ends_here c.loop-depth.invariant.3 shaped (omega (arith, c.loop-depth-test.false)) in
    record { sets = r.0; count = r.1 }
