use mathlib.Core.Path.{◌≡◌}
use lib.ListN.{length, take}
use Rattle.lists.specs.Lists.{sum_of}
use Rattle.chart_lists.specs.Lists.{put}
use Rattle.judgement.specs.Tested.{sets_in}
use Rattle.judgement.proofs.tested_sets.Given as goal

abbrev pub invariant-loop-i : goal.invariant-loop-i
invariant-loop-i l = record {
  same_length : length l.tested ≡ length l.initial.tested;
  base_is : l.base ≡ sum_of (take l.i l.test_counts);
  sets_are : l.tested ≡ put (sets_in (take l.i l.test_counts) l.timers) l.initial.tested;
}
