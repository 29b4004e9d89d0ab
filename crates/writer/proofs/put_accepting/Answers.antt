-- `put_accepting` meets its contract: a pair of bytes a turn.
use mathlib.Core.Path.{refl}
use native.Mathlib.Omega.{arith}
use lib.ListN.{get_or}
use Rattle.file_format.proofs.Lengths.{length_digits}
use Rattle.writer.specs.Bytes.{number_bytes}
use Rattle.chart_lists.proofs.PutLoop.{put_loop_first, put_loop_done, put_loop_again}
use Rattle.writer.proofs.put_accepting.Goals as goal

pub loop-i-init : goal.loop-i-init
loop-i-init c = put_loop_first _ _ _

pub loop-i-preserved : goal.loop-i-preserved
loop-i-preserved c =
    let size = length_digits 2 (get_or c.args.accepting.now c.loop-i.i 0) in
    put_loop_again c.loop-i.invariant c.loop-i-test.true refl c.put_pair.ensures c.put_pair.auto.out (omega (arith, size))

pub returns : goal.returns
unfolding number_bytes
returns c = put_loop_done c.loop-i.invariant c.loop-i-test.false
