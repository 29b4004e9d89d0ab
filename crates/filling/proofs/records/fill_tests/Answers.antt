-- `fill_tests` stores one test after another behind the first `base` entries.
use mathlib.Core.Path.{refl, sym}
use lib.ListN.{length-set}
use Rattle.model.specs.Version.{width_of}
use Rattle.file_judging.proofs.TestsLoop as skipping
use Rattle.filling.proofs.Upto.{more, all}
use Rattle.filling.proofs.TestsLoop.{tests_begin, tests_done, tests_never, tests_again}
use Rattle.filling.proofs.records.fill_tests.Goals as goal

pub loop-k-init : goal.loop-k-init
loop-k-init c = (
  refl,
  refl,
  refl,
  tests_begin (width_of c.args.chart.version) c.args.chart.timers c.args.place c.args.s.now c.args.at c.args.g c.args.base _ _ _ c.requires.0
      c.requires.1 c.requires.2,
)

pub returns-in_default : goal.returns-in_default
returns-in_default c =
    let m = more c.from-k-end.ensures c.loop-k-test.true in
    let h = sym (rw c.unwrap_err.ensures at c.test_at-a.ensures) in
    let w = width_of c.args.chart.version in
    let never = tests_never w c.args.chart.timers c.args.place c.args.s.now c.args.at c.args.g c.args.base _ _ _ c.requires.0 c.requires.1
    c.requires.2 c.loop-k.invariant.3 m h in
    record { read = skipping.tests_refused c.loop-k.invariant.3.read m h; stored = λ ts t e. absurd (never ts t e) }

pub loop-k-preserved : goal.loop-k-preserved
loop-k-preserved c =
    let w = width_of c.args.chart.version in (
      simp length-set c.loop-k.invariant.0,
      simp length-set c.loop-k.invariant.1,
      simp length-set c.loop-k.invariant.2,
      tests_again w c.args.chart.timers c.args.place c.args.s.now c.args.at c.args.g c.args.base _ _ _ c.requires.0 c.requires.1 c.requires.2
          c.loop-k.invariant.3 (more c.from-k-end.ensures c.loop-k-test.true) (sym c.in-Ok.ensures) c.from.ensures,
    )

pub returns : goal.returns
returns c =
    let a = all c.from-k-end.ensures c.loop-k-test.false in
    record {
      read = rw c.from-2.ensures (skipping.tests_done c.loop-k.invariant.3.read a);
      stored =
          tests_done (width_of c.args.chart.version) c.args.chart.timers c.args.place c.args.s.now c.args.at c.args.g c.args.base _ _ _ c.requires.0
          c.requires.1 c.requires.2 c.loop-k.invariant.3 a;
    }
