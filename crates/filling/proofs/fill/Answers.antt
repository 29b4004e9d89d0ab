-- `fill`: frame, header, transitions, end, each judged as the file's judgement has it; what is stored on the way is the chart's, if the file holds
-- one. The hard part is the room, which is known of the whole chart or of every chart.
use mathlib.Core.Path.{sym, ◌∙◌}
use native.Mathlib.Omega.{arith}
use Rattle.chart_lists.specs.Lists.{Lists, lists}
use Rattle.file_judging.proofs.HeaderParts.{header_few}
use Rattle.file_judging.proofs.JudgeParts.{judge_frame_lem, judge_version, judge_header}
use Rattle.filling.proofs.ChartParts.{accepting_fit, heads_fit, tests_fit}
use Rattle.filling.proofs.FillParts.{refused_read, refused_none, ended_read, lists_filled}
use Rattle.filling.proofs.fill.Goals as goal

pub returns-in_default : goal.returns-in_default
returns-in_default c =
    let e = judge_frame_lem c.args.file.now (sym (rw c.unwrap_err.ensures at c.frame-a.ensures)) in
    record { answer = refused_read c.args.file.now e; lists = λ x q. absurd (refused_none c.args.file.now e x q) }

pub overflow_cast-version : goal.overflow_cast-version
overflow_cast-version c = omega (arith, judge_version c.args.file.now (sym c.in-Ok.ensures))

pub fill_header-b-requires : goal.fill_header-b-requires
fill_header-b-requires c = accepting_fit c.args.file.now (sym c.in-Ok.ensures) c.requires

pub returns-in_default-b : goal.returns-in_default-b
returns-in_default-b c =
    let h = sym (rw c.unwrap_err-in_default-b.ensures at c.fill_header-b.ensures.read) in
    let e = judge_header c.args.file.now (sym c.in-Ok.ensures) h in
    record { answer = refused_read c.args.file.now e; lists = λ x q. absurd (refused_none c.args.file.now e x q) }

pub fill_records-d-requires : goal.fill_records-d-requires
fill_records-d-requires c =
    let h = sym c.in-Ok-b.ensures.read in
    let f = heads_fit c.args.file.now (sym c.in-Ok.ensures) c.requires h in
    record {
      limit_bound = ((header_few _ _ h).timers, f.0, f.1, f.2, f.3, f.4);
      tests_fit = tests_fit c.args.file.now (sym c.in-Ok.ensures) c.requires h;
    }

pub returns : goal.returns
returns c =
    let e = sym c.in-Ok.ensures in
    let h = sym c.in-Ok-b.ensures.read in
    let before : Lists =
    lists c.args.accepting.now c.args.sources.now c.args.targets.now c.args.events.now c.args.starts.now
    c.args.test_counts.now c.args.timers.now c.args.codes.now c.args.constants.now in
    record {
      answer = c.ended.ensures ∙ ended_read c.args.file.now e h c.fill_records-d.result c.fill_records-d.ensures.read;
      lists = lists_filled c.args.file.now e h before c.fill_header-b.ensures.stored c.fill_records-d.ensures.stored;
    }
