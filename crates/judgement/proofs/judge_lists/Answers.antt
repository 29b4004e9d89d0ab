-- `judge_lists` answers 9, then 10, else the header. The sets are made over the front of an array and read there again.
use mathlib.Core.Path.{sym, ap, ◌∙◌}
use mathlib.Core.List.{List}
use Prim.Native.Nat.{ℕ}
use lib.ListN.{length}
use Rattle.lists.specs.Lists.{lowest}
use Rattle.judgement.specs.Tested.{tests_at}
use Rattle.judgement.specs.Places.{refused_in}
use Rattle.forward.proofs.Lent.{none_cut, few_locations, lent_length, lent_safe, lent_empty, made_room, seen_length, seen_sets, sources_seen}
use Rattle.judgement.proofs.Judging.{answer_9, answer_10, answer_chart}
use Rattle.judgement.proofs.judge_lists.Goals as goal

pub slice_bounds-sets-end : goal.slice_bounds-sets-end
slice_bounds-sets-end c = few_locations c.requires.0

pub slice_bounds-settle_forward-end : goal.slice_bounds-settle_forward-end
slice_bounds-settle_forward-end c = sym (lent_length c.requires.0)

pub settle_forward-requires : goal.settle_forward-requires
settle_forward-requires c = (lent_safe c.requires.0, lent_empty c.requires.0)

pub slice_bounds-sets-end-2 : goal.slice_bounds-sets-end-2
slice_bounds-sets-end-2 c = made_room c.requires.0 c.settle_forward.ensures _

pub slice_bounds-first_refused-end : goal.slice_bounds-first_refused-end
slice_bounds-first_refused-end c = sym (seen_length c.requires.0 c.settle_forward.ensures _)

pub first_refused-unreached-requires : goal.first_refused-unreached-requires
first_refused-unreached-requires c = rw (seen_length c.requires.0 c.settle_forward.ensures _) (none_cut c.requires.0)

pub returns-then-unreached-m : goal.returns-then-unreached-m
returns-then-unreached-m c =
    let m = c.args.header in
    let s = seen_sets c.requires.0 c.settle_forward.ensures _ in
    let unreached = c.first_refused-unreached.ensures ∙ ap (refused_in m.version m.timers m.initial c.args.sources.now c.args.targets.now) s in
    answer_9 m _ _ _ c.args.tested.now unreached c.if-unreached-m.true

pub slice_bounds-sets-end-3 : goal.slice_bounds-sets-end-3
slice_bounds-sets-end-3 c = made_room c.requires.0 c.settle_forward.ensures _

pub slice_bounds-first_testing-end : goal.slice_bounds-first_testing-end
slice_bounds-first_testing-end c = sym (seen_length c.requires.0 c.settle_forward.ensures _)

pub first_testing-unstarted-requires : goal.first_testing-unstarted-requires
first_testing-unstarted-requires c = (c.requires.1, sources_seen c.requires.0 c.settle_forward.ensures _)

pub returns-then-unstarted-n : goal.returns-then-unstarted-n
returns-then-unstarted-n c =
    let m = c.args.header in
    let s = seen_sets c.requires.0 c.settle_forward.ensures _ in
    let unreached = c.first_refused-unreached.ensures ∙ ap (refused_in m.version m.timers m.initial c.args.sources.now c.args.targets.now) s in
    let first = λ (l : List ℕ). lowest (tests_at c.args.sources.now c.args.tested.now l) (length c.args.sources.now) in
    let unstarted = c.first_testing-unstarted.ensures ∙ ap first s in
    answer_10 m _ _ _ c.args.tested.now unreached c.if-unreached-m.false unstarted c.if-unstarted-n.true

pub returns : goal.returns
returns c =
    let m = c.args.header in
    let s = seen_sets c.requires.0 c.settle_forward.ensures _ in
    let unreached = c.first_refused-unreached.ensures ∙ ap (refused_in m.version m.timers m.initial c.args.sources.now c.args.targets.now) s in
    let first = λ (l : List ℕ). lowest (tests_at c.args.sources.now c.args.tested.now l) (length c.args.sources.now) in
    let unstarted = c.first_testing-unstarted.ensures ∙ ap first s in
    answer_chart m _ _ _ c.args.tested.now unreached c.if-unreached-m.false unstarted c.if-unstarted-n.false
