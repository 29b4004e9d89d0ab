-- `fill_record` stores a record's head and then its tests.
use mathlib.Core.Path.{sym, ◌∙◌}
use Rattle.model.specs.Version.{width_of}
use Rattle.file_format.proofs.Parsed.{value_refused}
use Rattle.fields.proofs.Parts.{transition_head_refused}
use Rattle.file_judging.proofs.RecordParts.{skip_head_refused, skip_tests_left}
use Rattle.filling.proofs.RecordsLoop.{head_stored, tests_behind}
use Rattle.filling.proofs.records.fill_record.Goals as goal

pub returns-in_default : goal.returns-in_default
returns-in_default c =
    record {
      read =
          let e = sym (rw c.unwrap_err.ensures at c.head_at-a.ensures) in
          skip_head_refused (width_of c.args.chart.version) c.args.chart.locations c.args.chart.timers c.args.k _ e;
      stored =
          let e = sym (rw c.unwrap_err.ensures at c.head_at-a.ensures) in
          (λ r t q. absurd (value_refused q
          (transition_head_refused (width_of c.args.chart.version) c.args.chart.locations c.args.chart.timers c.args.k _ e)));
    }

pub fill_tests-requires : goal.fill_tests-requires
fill_tests-requires c = let f = c.requires.record_fits.fits _ _ (sym c.in-Ok.ensures) in (f.timers, f.codes, f.constants)

pub returns : goal.returns
returns c = record {
  read = c.fill_tests.ensures.read
      ∙ skip_tests_left (width_of c.args.chart.version) c.args.chart.locations c.args.chart.timers c.args.k _ (sym c.in-Ok.ensures);
  stored = (λ r t q. (
    head_stored (width_of c.args.chart.version) c.args.chart.locations c.args.chart.timers c.args.k _ (sym c.in-Ok.ensures) r t q,
    c.fill_tests.ensures.stored r.tests t (tests_behind (width_of c.args.chart.version) c.args.chart.locations c.args.chart.timers c.args.k _
        (sym c.in-Ok.ensures) r t q),
  ));
}
