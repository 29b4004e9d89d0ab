-- `judge_chart`: the lists' fronts are the chart's, so are the sets that are made, and 9 and 10 are judged of them.
use native.Mathlib.Omega.{arith}
use Rattle.judgement.proofs.Held.{few, sources_part, targets_part, starts_part, test_counts_part, timers_for}
use Rattle.judgement.proofs.Held.{tested_begins, tested_room, tested_part, lent_safe, same_parts, judged_lent}
use Rattle.judgement.proofs.judge_chart.Goals as goal

pub slice_bounds-tested_sets-end : goal.slice_bounds-tested_sets-end
slice_bounds-tested_sets-end c = test_counts_part c.requires.0.1 c.requires.0.2

pub tested_sets-requires : goal.tested_sets-requires
tested_sets-requires c =
    let e = c.requires.0.1 in
    let h = c.requires.0.2 in
    (timers_for e h, omega (arith, few e h, test_counts_part e h, c.requires.1))

pub slice_bounds-judge_lists-end : goal.slice_bounds-judge_lists-end
slice_bounds-judge_lists-end c = sources_part c.requires.0.1 c.requires.0.2

pub slice_bounds-judge_lists-end-2 : goal.slice_bounds-judge_lists-end-2
slice_bounds-judge_lists-end-2 c = targets_part c.requires.0.1 c.requires.0.2

pub slice_bounds-judge_lists-end-3 : goal.slice_bounds-judge_lists-end-3
slice_bounds-judge_lists-end-3 c = starts_part c.requires.0.1 c.requires.0.2

pub slice_bounds-judge_lists-end-4 : goal.slice_bounds-judge_lists-end-4
slice_bounds-judge_lists-end-4 c = tested_room c.requires.0.1 c.requires.0.2 _ c.tested_sets.ensures

pub slice_bounds-judge_lists-end-5 : goal.slice_bounds-judge_lists-end-5
slice_bounds-judge_lists-end-5 c = tested_part c.requires.0.1 c.requires.0.2 _ c.tested_sets.ensures

pub judge_lists-requires : goal.judge_lists-requires
judge_lists-requires c =
    let e = c.requires.0.1 in
    let h = c.requires.0.2 in
    (lent_safe e h _ c.tested_sets.ensures, same_parts e h _ c.tested_sets.ensures)

pub returns : goal.returns
returns c = record {
  answer = λ x e h. judged_lent e h _ c.tested_sets.ensures c.judge_lists.ensures;
  tested = λ x e h. tested_begins e h _ c.tested_sets.ensures;
}
