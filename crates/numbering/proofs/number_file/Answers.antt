-- `number_file`: a refusal of the judgement stands; the lists that it leaves of a chart are what numbering asks for.
use native.Mathlib.Omega.{arith}
use Rattle.std.proofs.lemmas.Result.{err_from_is_err_and}
use Rattle.model.proofs.Judgement.{accepted as not_refused}
use Rattle.chart_lists.proofs.Fronts.{locations_are}
use Rattle.chart_lists.proofs.Partly.{holds_edges}
use Rattle.judgement.proofs.Callers.{judged_refused, judged_chart, accepted_in}
use Rattle.numbering.proofs.NumberedFile.{refused_answer, refused_none, judged_answer, judged_lists_lem}
use Rattle.numbering.proofs.number_file.Goals as goal

pub number_judged-requires : goal.number_judged-requires
number_judged-requires c =
    let a = judged_chart c.args.file.now c.in_ok-header.ensures.answer in
    let h = c.in_ok-header.ensures.lists a.chart a.reads in
    let t = c.in_ok-header.ensures.tested a.chart a.reads in
    let few = h.valid.few_locations in
    let m = locations_are a.chart a.header_is in (
      (a.chart, record { header_is = a.header_is; edges = holds_edges h; tested_are = t }, ((not_refused h.valid).0 a.accepted).reached),
      omega (arith, c.requires.0, few, m),
      omega (arith, c.requires.1, few, m),
    )

pub returns-in_err-header : goal.returns-in_err-header
returns-in_err-header c =
    let file = c.args.file.now in
    let p = err_from_is_err_and c.from_residual.result c.from_residual.ensures.1 in
    let e = judged_refused file c.in_err-header.ensures.answer in
    record { answer = rw (p.1, p.2) (refused_answer file e); lists = λ d h. absurd (refused_none file e h) }

pub returns : goal.returns
returns c =
    let file = c.args.file.now in
    let a = judged_chart file c.in_ok-header.ensures.answer in
    let h = c.in_ok-header.ensures.lists a.chart a.reads in
    let t = c.in_ok-header.ensures.tested a.chart a.reads in
    let r = c.number_judged.ensures a.chart (record { header_is = a.header_is; edges = holds_edges h; tested_are = t })
    ((not_refused h.valid).0 a.accepted).reached in
    let e = accepted_in a in
    record { answer = judged_answer file e r.0; lists = judged_lists_lem file e r.1 }
