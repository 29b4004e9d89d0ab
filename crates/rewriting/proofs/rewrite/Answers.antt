-- `rewrite` judges the file into its own lists: a refusal stands, and the chart that is accepted is fitted.
use mathlib.Core.Path.{◌∙◌}
use lib.ListN.{length}
use Rattle.list_judging.proofs.Answers.{passed_on}
use Rattle.judgement.proofs.Reading.{bytes_are}
use Rattle.rewriting.proofs.Entry.{answer_refused, lent_refused, accepted_into, answer_accepted, lent_accepted}
use Rattle.rewriting.proofs.rewrite.Goals as goal

pub returns-in_err-header : goal.returns-in_err-header
returns-in_err-header c = record {
  answer = passed_on _ _ c.from_residual.ensures ∙ answer_refused c.args.k (length c.args.out.now) c.args.file.now c.in_err-header.ensures.answer;
  lent = lent_refused c.args.k (length c.args.out.now) c.args.file.now c.in_err-header.ensures.answer c.args.out.now;
}

pub fit-requires : goal.fit-requires
fit-requires c =
    let bytes = bytes_are c.args.file.now (λ i. (c.type_inv.file i).fits) in
    let x = accepted_into c.args.file.now bytes c.in_ok-header.ensures.answer c.in_ok-header.ensures.lists c.in_ok-header.ensures.tested in
    (x.0.chart, x.1)

pub returns : goal.returns
returns c =
    let bytes = bytes_are c.args.file.now (λ i. (c.type_inv.file i).fits) in
    let x = accepted_into c.args.file.now bytes c.in_ok-header.ensures.answer c.in_ok-header.ensures.lists c.in_ok-header.ensures.tested in
    record {
      answer = answer_accepted c.args.k (length c.args.out.now) c.args.file.now x.0 (c.fit.ensures.answer x.0.chart x.1);
      lent = lent_accepted c.args.k (length c.args.out.now) c.args.file.now x.0 c.args.out.now (c.fit.ensures.lent x.0.chart x.1);
    }
