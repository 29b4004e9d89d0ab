-- `analyse`: a refusal of the judgement stands; else 21 where the list is short, and the live sets are copied over its front. What is hard is only
-- that they are the front of a longer list.
use mathlib.Core.Path.{sym, ◌∙◌}
use Prim.Native.Nat.{◌≤◌, ◌<◌}
use native.Mathlib.Omega.{arith}
use lib.ListN.{length}
use lib.Seq.{length-take-le}
use Rattle.std.proofs.lemmas.Result.{err_from_is_err_and}
use Rattle.model.specs.Spare.{reached_part}
use Rattle.chart_lists.proofs.Fronts.{locations_are}
use Rattle.numbering.proofs.NumberedFile.{file_chart, file_refused, part_are, live_front, live_part, live_room}
use Rattle.analysis.proofs.Entry.{refused_answer, refused_list, short_answer, short_list, found_answer, found_list, copied}
use Rattle.analysis.proofs.analyse.Goals as goal

pub returns-in_err-numbers : goal.returns-in_err-numbers
returns-in_err-numbers c =
    let p = err_from_is_err_and c.from_residual.result c.from_residual.ensures.1 in
    let e = file_refused c.args.file.now c.in_err-numbers.ensures.answer in
    record { answer = rw (p.1, p.2) (refused_answer c.args.file.now c.args.live.now e); lent = refused_list c.args.file.now c.args.live.now e }

pub returns-then-live-m : goal.returns-then-live-m
returns-then-live-m c =
    let n = file_chart c.args.file.now c.in_ok-numbers.ensures.answer in
    let h : length c.args.live.now < n.chart.locations = omega (arith, locations_are n.chart n.header_is, c.if-live-m.true) in
    record { answer = short_answer c.args.file.now c.args.live.now n.judged h; lent = short_list c.args.file.now c.args.live.now n.judged h }

pub slice_bounds-sets-end : goal.slice_bounds-sets-end
slice_bounds-sets-end c =
    let n = file_chart c.args.file.now c.in_ok-numbers.ensures.answer in
    live_room (reached_part n.chart) (part_are n.chart n.header_is) (c.in_ok-numbers.ensures.lists n.chart n.judged).live_are

pub slice_bounds-copy_from_slice-end-3 : goal.slice_bounds-copy_from_slice-end-3
slice_bounds-copy_from_slice-end-3 c =
    let n = file_chart c.args.file.now c.in_ok-numbers.ensures.answer in
    sym (live_part (reached_part n.chart) (part_are n.chart n.header_is) (c.in_ok-numbers.ensures.lists n.chart n.judged).live_are)

pub copy_from_slice-requires : goal.copy_from_slice-requires
copy_from_slice-requires c =
    let n = file_chart c.args.file.now c.in_ok-numbers.ensures.answer in
    length-take-le _ _ c.if-live-m.false
    ∙ sym (live_part (reached_part n.chart) (part_are n.chart n.header_is) (c.in_ok-numbers.ensures.lists n.chart n.judged).live_are)

pub returns : goal.returns
returns c =
    let n = file_chart c.args.file.now c.in_ok-numbers.ensures.answer in
    let h : n.chart.locations ≤ length c.args.live.now = omega (arith, locations_are n.chart n.header_is, c.if-live-m.false) in
    let l = live_front (reached_part n.chart) (part_are n.chart n.header_is) (c.in_ok-numbers.ensures.lists n.chart n.judged).live_are in
    let long = live_part (reached_part n.chart) (part_are n.chart n.header_is) (c.in_ok-numbers.ensures.lists n.chart n.judged).live_are in
    record {
      answer = found_answer c.args.file.now c.args.live.now n.judged h n.used_is n.floor_is n.searched_is n.rounds_is;
      lent = found_list c.args.file.now c.args.live.now n.judged h l (copied _ long c.copy_from_slice.ensures.after);
    }
