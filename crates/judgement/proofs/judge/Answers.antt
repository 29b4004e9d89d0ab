-- `judge`: a refusal of the file stands, and there is no chart then; of a chart that is read 9 and 10 are judged.
use mathlib.Core.Path.{◌≡◌}
use mathlib.Core.List.{List}
use Prim.Native.Nat.{ℕ, ◌<◌}
use lib.ListN.{get_or}
use Rattle.std.proofs.lemmas.Result.{err_from_is_err_and}
use Rattle.model.specs.Answer.{returned}
use Rattle.model.specs.Chart.{Chart}
use Rattle.chart_lists.specs.Lists.{Lists, lists_of, put_lists}
use Rattle.chart_lists.specs.Holds.{Holds}
use Rattle.chart_lists.proofs.Holds.{holds_put}
use Rattle.file_format.specs.File.{chart_in}
use Rattle.file_format.proofs.File.{reads_valid}
use Rattle.filling.specs.Filling.RoomToFill.{for_every}
use Rattle.judgement.proofs.Held.{holds_judged}
use Rattle.judgement.proofs.Reading.{bytes_are, header_read_lem, chart_read, judged_read, refused_judged, refused_none}
use Rattle.judgement.proofs.judge.Goals as goal

-- lists into which the chart of a file was put hold it
held : (bs : List ℕ) → ((i : ℕ) → get_or bs i 0 < 256) → (c : Chart) → chart_in bs ≡ returned c
    → (before : Lists) {after : Lists} → after ≡ put_lists (lists_of c) before → Holds c after
held bs small c q before e = holds_put (reads_valid bs c (bytes_are bs small) q) before e

pub fill-requires : goal.fill-requires
fill-requires c = for_every c.requires.0

pub returns-in_err-header : goal.returns-in_err-header
returns-in_err-header c =
    let p = err_from_is_err_and c.from_residual.result c.from_residual.ensures.1 in
    let e = c.in_err-header.ensures.answer in
    let none = refused_none c.args.file.now e in
    record {
      answer = rw (p.1, p.2) (refused_judged c.args.file.now e);
      lists = λ x q. absurd (none x q);
      tested = λ x q. absurd (none x q);
    }

pub judge_chart-requires : goal.judge_chart-requires
judge_chart-requires c =
    let e = c.in_ok-header.ensures.answer in
    let x = chart_read c.args.file.now e in
    let h = held c.args.file.now (λ i. (c.type_inv.file i).fits) x.0 x.1 _ (c.in_ok-header.ensures.lists x.0 x.1) in
    ((x.0, header_read_lem c.args.file.now e x.1, holds_judged h), c.requires.1)

pub returns : goal.returns
returns c =
    let e = c.in_ok-header.ensures.answer in
    let x = chart_read c.args.file.now e in
    let h = λ (y : Chart) (q : chart_in c.args.file.now ≡ returned y).
    held c.args.file.now (λ i. (c.type_inv.file i).fits) y q _ (c.in_ok-header.ensures.lists y q) in
    record {
      answer = judged_read c.args.file.now x.1 (c.judge_chart.ensures.answer x.0 (header_read_lem c.args.file.now e x.1) (holds_judged (h x.0 x.1)));
      lists = h;
      tested = λ y q. c.judge_chart.ensures.tested y (header_read_lem c.args.file.now e q) (holds_judged (h y q));
    }
