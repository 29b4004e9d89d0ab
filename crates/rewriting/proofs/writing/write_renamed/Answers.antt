-- `write_renamed` meets its contract: the renamed lists are those of the rewritten chart, and the writer writes its file.
use mathlib.Core.Path.{ap, ◌∙◌}
use native.Mathlib.Omega.{arith}
use lib.ListN.{length}
use Rattle.model.specs.Answer.{Answer}
use Rattle.model.specs.Chart.{Chart}
use Rattle.file_format.specs.File.{file_of}
use Rattle.chart_lists.specs.Lists.{overwritten}
use Rattle.chart_lists.proofs.Holds.{timers_each}
use Rattle.chart_lists.proofs.Fronts.{transitions_are}
use Rattle.chart_lists.proofs.Tests.{all_tests_lem}
use Rattle.chart_lists.proofs.Partly.{holds_starts, holds_tests}
use Rattle.rewriting.proofs.Written.{write_into_lem, write_answer_lem}
use Rattle.rewriting.proofs.writing.write_renamed.Goals as goal

pub rename_starts-requires : goal.rename_starts-requires
rename_starts-requires c =
    let p = c.requires in
    ((p.0, p.1, p.2, holds_starts p.3, p.4), omega (arith, transitions_are p.0 p.2, p.3.valid.few_transitions))

pub rename_tests-requires : goal.rename_tests-requires
rename_tests-requires c =
    let p = c.requires in
    (p.0, p.1, p.2, holds_tests p.3, p.4, omega (arith, timers_each p.0, all_tests_lem p.3.valid))

pub returns : goal.returns
returns c = record {
  answer = λ d N is h x valid u.
      let s = c.rename_starts.ensures d N is (holds_starts h) x in
      let t = c.rename_tests.ensures d N is (holds_tests h) x in
      c.write.ensures.answer ∙ write_answer_lem N d x.numbered valid is h u _ _ s t (length c.args.out.now);
  lent = λ d N is h x valid u.
      let s = c.rename_starts.ensures d N is (holds_starts h) x in
      let t = c.rename_tests.ensures d N is (holds_tests h) x in
      c.write.ensures.lent
      ∙ ap (λ (y : Answer Chart). overwritten file_of y c.args.out.now)
      (write_into_lem N d x.numbered valid is h u _ _ s t (length c.args.out.now));
}
