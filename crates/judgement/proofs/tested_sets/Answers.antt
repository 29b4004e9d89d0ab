-- `tested_sets` makes the set of each transition's timers, one transition after another.
use mathlib.Core.Path.{◌≡◌, refl, ap, ◌∙◌}
use Prim.Native.Nat.{◌<◌}
use native.Mathlib.Omega.{arith}
use lib.ListN.{length, length-set}
use lib.Seq.{take-length}
use Rattle.timer_set.specs.Members.{set_of}
use Rattle.lists.specs.Lists.{sum_of}
use Rattle.chart_lists.specs.Lists.{put}
use Rattle.judgement.specs.Tested.{sets_in}
use Rattle.judgement.proofs.Tested.{between, between_small, sum_more, sum_room, sets_more}
use Rattle.judgement.proofs.tested_sets.Goals as goal

pub loop-i-init : goal.loop-i-init
unfolding put sets_in sum_of
loop-i-init c = record { same_length = refl; base_is = refl; sets_are = refl }

pub overflow_add-end : goal.overflow_add-end
overflow_add-end c =
    let room = sum_room c.args.test_counts.now c.args.timers.now c.loop-i.i (omega arith) in
    record { fits = omega (arith, room, c.requires.0.enough) }

pub slice_bounds-set_of-end : goal.slice_bounds-set_of-end
slice_bounds-set_of-end c =
    let room = sum_room c.args.test_counts.now c.args.timers.now c.loop-i.i (omega arith) in
    omega (arith, room, c.requires.0.enough)

pub set_of-requires : goal.set_of-requires
set_of-requires c =
    let room = sum_room c.args.test_counts.now c.args.timers.now c.loop-i.i (omega arith) in
    between_small c.args.timers.now c.loop-i.base _ c.requires.0.small (omega (arith, room))

pub loop-i-preserved : goal.loop-i-preserved
loop-i-preserved c =
    let a = c.args in
    let k = c.loop-i.invariant in
    let h : c.loop-i.i < length a.test_counts.now = omega arith in
    record {
      same_length = length-set c.loop-i.tested c.loop-i.i _ ∙ k.same_length;
      base_is = sum_more a.test_counts.now a.timers.now c.loop-i.i h k.base_is;
      sets_are = sets_more a.test_counts.now a.timers.now c.loop-i.i h a.tested.now c.requires.1 k.base_is k.sets_are
          (c.set_of.ensures ∙ ap set_of (between a.timers.now c.loop-i.base _));
    }

pub returns : goal.returns
returns c = let e : c.loop-i.i ≡ length c.args.test_counts.now = omega arith in
    rw (e, take-length) at c.loop-i.invariant.sets_are
