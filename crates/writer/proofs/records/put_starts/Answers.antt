-- `put_starts` writes the lowest timer that is left, one a turn.
use mathlib.Core.Path.{sym, ap, ◌∙◌}
use native.Mathlib.Omega.{arith}
use Rattle.file_format.specs.Parse.{digits}
use Rattle.file_format.proofs.Lengths.{length_digits}
use Rattle.writer.proofs.FieldBytes.{starts_bytes}
use Rattle.chart_lists.proofs.Part.{mid_room}
use Rattle.writer.proofs.TimersLeft.{left_all, left_none, next_place, next_is, left_fewer, some_left}
use Rattle.chart_lists.proofs.PutLoop.{put_loop_first, put_loop_done, put_loop_again, put_loop_even}
use Rattle.writer.proofs.records.put_starts.Goals as goal

pub loop-j-init : goal.loop-j-init
loop-j-init c = rw c.into_iter-j-iterator.ensures.into_iter_gives (left_all (omega arith), put_loop_first _ _ _)

pub put_byte-requires : goal.put_byte-requires
put_byte-requires c =
    let place = next_place c.loop-j.invariant.0 (some_left c.in-Some.ensures.steps) in
    let room = put_loop_even c.loop-j.invariant.1 place 1 (λ k. length_digits 1 _) (omega (arith, c.requires)) in
    mid_room c.loop-j.at c.loop-j.out 1 room

pub loop-j-preserved : goal.loop-j-preserved
loop-j-preserved c =
    let some = some_left c.in-Some.ensures.steps in
    let place = next_place c.loop-j.invariant.0 some in
    let byte = ap (digits 1) (next_is c.loop-j.invariant.0 some ∙ sym c.in-Some.ensures.steps.lowest) in (
      rw (c.in-Some.ensures.steps.left_is, c.in-Some.ensures.steps.lowest) (left_fewer c.loop-j.invariant.0 some),
      put_loop_again c.loop-j.invariant.1 place byte c.put_byte.ensures c.put_byte.auto.out (omega (arith, length_digits 1 c.in-Some.j)),
    )

pub returns : goal.returns
returns c = put_loop_done c.loop-j.invariant.1 (left_none c.loop-j.invariant.0 c.in-None.ensures.steps) ∙ rw (starts_bytes c.args.set.bits)
