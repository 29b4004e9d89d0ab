-- `put_tests` meets its contract: a test a turn, each in as many bytes as the version gives it.
use mathlib.Core.Path.{◌≡◌, refl}
use Prim.Native.Nat.{◌+◌, ◌*◌}
use native.Mathlib.Omega.{arith}
use Rattle.model.specs.Version.{width_of}
use Rattle.chart_lists.specs.Stored.{lists_in}
use Rattle.writer.specs.Bytes.{test_at, tests_bytes}
use Rattle.chart_lists.proofs.Part.{mid_room}
use Rattle.writer.proofs.Stores.{fits_width}
use Rattle.writer.proofs.FieldBytes.{length_test_at}
use Rattle.chart_lists.proofs.PutLoop.{put_loop_first, put_loop_done, put_loop_again, put_loop_even}
use Rattle.writer.proofs.records.put_tests.Goals as goal

pub loop-t-init : goal.loop-t-init
loop-t-init c = let none : (2 + c.width_of.result) * 0 ≡ 0 = omega arith in rw none (put_loop_first _ _ _)

pub put_test-requires : goal.put_test-requires
put_test-requires c =
    let size = 2 + width_of c.args.version in
    let room = put_loop_even c.loop-t.invariant c.loop-t-test.true size (λ t. length_test_at _ _ _) c.requires.g_in_bounds.3 in
    let fits = fits_width c.args.version _ (λ two. c.requires.fit_from two c.loop-t.t c.loop-t-test.true) (omega arith) in
    (mid_room _ c.loop-t.out size room, fits)

pub loop-t-preserved : goal.loop-t-preserved
unfolding test_at
loop-t-preserved c =
    let size = length_test_at (width_of c.args.version) (lists_in c.args.lists) (c.args.k + c.loop-t.t) in
    put_loop_again c.loop-t.invariant c.loop-t-test.true refl c.put_test.ensures c.put_test.auto.out (omega (arith, size, c.width_of.ensures))

pub returns : goal.returns
unfolding tests_bytes
returns c = put_loop_done c.loop-t.invariant c.loop-t-test.false
