-- `rename_tests` meets its contract: the timers of the first i transitions' tests are renamed, for whichever chart and numbering the lists are of;
-- what a turn may read follows from the one that is given.
use mathlib.Core.Path.{◌≡◌, sym, ap, ◌∙◌}
use mathlib.Core.List.{List}
use Prim.Native.Nat.{ℕ, ◌+◌, ◌-◌, ◌≤◌}
use native.Mathlib.Omega.{arith}
use lib.ListN.{length, get_or}
use Rattle.chart_lists.specs.Lists.{put}
use Rattle.chart_lists.proofs.Fronts.{transitions_are}
use Rattle.chart_lists.proofs.InTurn.{nth_transition, source_at, test_count_at}
use Rattle.renaming.proofs.Timers.{timers_all, tests_none, tests_next}
use Rattle.renaming.proofs.Turns.{tests_turn, timers_there, timers_in, timers_few, part_length, part_at}
use Rattle.renaming.proofs.rename_tests.Goals as goal

pub loop-i-init : goal.loop-i-init
loop-i-init c = λ chart N e h s. tests_none chart N _

pub bounds-sources-i : goal.bounds-sources-i
bounds-sources-i c = let q = c.requires in (tests_turn q.0 q.2 q.4 c.loop-i-test.true q.3).in_locations

pub bounds-test_counts-i : goal.bounds-test_counts-i
bounds-test_counts-i c = let q = c.requires in (tests_turn q.0 q.2 q.4 c.loop-i-test.true q.3).in_others

pub overflow_add-end : goal.overflow_add-end
overflow_add-end c =
    let q = c.requires in
    let s = c.loop-i.invariant q.0 q.1 (transitions_are q.0 q.2) q.3 q.4 in
    let there = timers_in q.0 q.2 q.4 c.loop-i-test.true q.3 s.base_is in
    record { fits = omega (arith, there) }

pub slice_bounds-rename_row-end : goal.slice_bounds-rename_row-end
slice_bounds-rename_row-end c =
    let q = c.requires in
    let s = c.loop-i.invariant q.0 q.1 (transitions_are q.0 q.2) q.3 q.4 in
    timers_in q.0 q.2 q.4 c.loop-i-test.true q.3 s.base_is

-- there is room for the tests of transition i
room : (base count n before now : ℕ) → base + count ≤ n → n ≤ before → now ≡ before → base + count ≤ now
room base count n before now h l e = omega arith

pub slice_bounds-rename_row-end-in-loop-i : goal.slice_bounds-rename_row-end-in-loop-i
slice_bounds-rename_row-end-in-loop-i c =
    let q = c.requires in
    let s = c.loop-i.invariant q.0 q.1 (transitions_are q.0 q.2) q.3 q.4 in
    room _ _ _ _ _ (timers_there q.0 q.2 q.4 c.loop-i-test.true q.3 s.base_is) q.5 c.loop-i.auto.renamed

pub rename_row-requires : goal.rename_row-requires
rename_row-requires c =
    let q = c.requires in
    let s = c.loop-i.invariant q.0 q.1 (transitions_are q.0 q.2) q.3 q.4 in
    let turn = tests_turn q.0 q.2 q.4 c.loop-i-test.true q.3 in
    let few = timers_few q.0 q.2 q.4 c.loop-i-test.true q.3 s.base_is in
    let there = timers_in q.0 q.2 q.4 c.loop-i-test.true q.3 s.base_is in
    let wide = room _ _ _ _ _ (timers_there q.0 q.2 q.4 c.loop-i-test.true q.3 s.base_is) q.5 c.loop-i.auto.renamed in
    let long = part_length c.args.timers.now _ _ there in (
      λ k l. let m = rw long at l in rw (part_at c.args.timers.now _ _ there k m) (few k m),
      part_length c.loop-i.renamed _ _ wide ∙ sym long,
      turn.few,
      turn.row,
    )

pub loop-i-preserved : goal.loop-i-preserved
loop-i-preserved c = λ chart N e h s.
    let n = (nth_transition chart c.loop-i.i (omega arith)).1 in
    let count = get_or c.args.test_counts.now c.loop-i.i 0 in
    let many : (c.loop-i.base + count) - c.loop-i.base ≡ count = omega arith in
    rw many (tests_next h.valid s n h.timers (c.loop-i.invariant chart N e h s) (source_at n h.sources) (test_count_at n h.test_counts)
    (rw many at c.rename_row.ensures))

pub returns : goal.returns
returns c = λ chart N is h s.
    let e = transitions_are chart is in
    let all : c.loop-i.i ≡ length chart.transitions = omega arith in
    (c.loop-i.invariant chart N e h s).renamed_are ∙ ap (λ (w : List ℕ). put w c.args.renamed.now) (timers_all chart N all)
