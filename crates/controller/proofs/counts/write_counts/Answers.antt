-- `write_counts` copies the entries over the middle of the list.
use mathlib.Core.Path.{◌≡◌}
use Prim.Native.Nat.{◌+◌, ◌-◌}
use native.Mathlib.Omega.{arith}
use lib.ListN.{length}
use Rattle.chart_lists.specs.Lists.{put}
use Rattle.controller_model.specs.Parts.{written}
use Rattle.controller.proofs.counts.write_counts.Goals as goal

pub returns : goal.returns
unfolding written put
returns c =
    let e : c.args.o + length c.args.entries.now - c.args.o ≡ length c.args.entries.now = omega arith in
    rw (c.copy_from_slice.ensures.after, e)
