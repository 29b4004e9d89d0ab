-- `fill_records` reads and stores one transition after another; a list keeps its length through each.
use mathlib.Core.Path.{◌≡◌, refl, sym}
use Prim.Native.Nat.{ℕ, ◌≤◌, ◌<◌}
use native.Mathlib.Omega.{arith}
use lib.ListN.{drop}
use Rattle.model.specs.Version.{width_of}
use Rattle.file_judging.proofs.RecordParts.{skip_at_most}
use Rattle.file_judging.proofs.Loops.{counted_done, counted_refused}
use Rattle.filling.proofs.Upto.{more, all}
use Rattle.filling.proofs.RecordsLoop.{records_first, records_done, records_never, records_again, record_fits}
use Rattle.filling.proofs.records.fill_records.Goals as goal

-- a list that is as long as one with room has room
has_room : {k n a l : ℕ} → k < n → n ≤ a → l ≡ a → k < l
has_room h r e = omega arith

pub loop-k-init : goal.loop-k-init
loop-k-init c =
    let start = drop c.args.at c.args.s.now in
    let chart = c.args.chart in
    let f = records_first (width_of chart.version) chart.locations chart.timers chart.transitions start _ _ _ _ _ _ _ _ in
    (refl, refl, refl, refl, refl, refl, refl, refl, f)

pub fill_record-a-requires : goal.fill_record-a-requires
fill_record-a-requires c = let m = more c.from-k-end.ensures c.loop-k-test.true in record {
  limit_bound = (
    c.requires.limit_bound.0,
    has_room m c.requires.limit_bound.1 c.loop-k.invariant.0,
    has_room m c.requires.limit_bound.2 c.loop-k.invariant.1,
    has_room m c.requires.limit_bound.3 c.loop-k.invariant.2,
    has_room m c.requires.limit_bound.4 c.loop-k.invariant.3,
    has_room m c.requires.limit_bound.5 c.loop-k.invariant.4,
  );
  record_fits = record_fits c.loop-k.invariant.8.read m c.requires.tests_fit c.loop-k.invariant.5 c.loop-k.invariant.6
      c.loop-k.invariant.7;
}

pub returns-in_default : goal.returns-in_default
returns-in_default c =
    let m = more c.from-k-end.ensures c.loop-k-test.true in
    let h = sym c.in_default.ensures.read in
    record {
      read = rw c.in_default.is (counted_refused c.loop-k.invariant.8.read m h);
      stored = λ rs e q. absurd (records_never c.loop-k.invariant.8 m h rs e q);
    }

pub overflow_add-base : goal.overflow_add-base
overflow_add-base c =
    omega (
      arith,
      skip_at_most _ _ _ _ _ (sym c.in-Ok.ensures.read),
      c.loop-k.invariant.8.read.few,
      more c.from-k-end.ensures c.loop-k-test.true,
      c.requires.limit_bound.4,
    )

pub loop-k-preserved : goal.loop-k-preserved
loop-k-preserved c = let m = more c.from-k-end.ensures c.loop-k-test.true in (
  omega (arith, c.loop-k.invariant.0),
  omega (arith, c.loop-k.invariant.1),
  omega (arith, c.loop-k.invariant.2),
  omega (arith, c.loop-k.invariant.3),
  omega (arith, c.loop-k.invariant.4),
  omega (arith, c.loop-k.invariant.5),
  omega (arith, c.loop-k.invariant.6),
  omega (arith, c.loop-k.invariant.7),
  records_again c.loop-k.invariant.8 m c.requires.limit_bound.1 c.requires.limit_bound.2 c.requires.limit_bound.3 c.requires.limit_bound.4
      c.requires.limit_bound.5 c.fill_record-a.ensures.stored (sym c.in-Ok.ensures.read),
)

pub returns : goal.returns
returns c =
    let a = all c.from-k-end.ensures c.loop-k-test.false in
    record { read = counted_done c.loop-k.invariant.8.read a; stored = records_done c.loop-k.invariant.8 a }
