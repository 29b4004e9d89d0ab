-- `read_chart`: a file that is refused, or a list that is too short, leaves the lists as they were; else they are filled in a second walk, which
-- answers as the first did.
use mathlib.Core.Path.{sym, ◌∙◌}
use Rattle.std.proofs.lemmas.Result.{err_from_is_err_and}
use Rattle.chart_lists.specs.Lists.{Lists, lists}
use Rattle.reader.proofs.ReadParts.{refused_file, refused_room, room, read_done}
use Rattle.reader.proofs.read_chart.Goals as goal
use Rattle.reader.proofs.read_chart.Goals.{Start, After-room}

-- the lent lists as they were passed
abbrev before : Start → Lists
before c =
    lists c.args.accepting.now c.args.sources.now c.args.targets.now c.args.events.now c.args.starts.now
    c.args.test_counts.now c.args.timers.now c.args.codes.now c.args.constants.now

pub returns-in_err-header : goal.returns-in_err-header
returns-in_err-header c =
    let p = err_from_is_err_and c.from_residual.result c.from_residual.ensures.1 in
    let r = refused_file c.args.file.now (before (goal.at.returns-in_err-header c).Start) c.in_err-header.ensures in
    record { answer = rw (p.1, p.2) r.0; lists = r.1 }

pub returns-then-not-room : goal.returns-then-not-room
returns-then-not-room c =
    let e = sym c.room.ensures ∙ c.if-not-room.true in
    let r = refused_room c.args.file.now (before (goal.at.returns-then-not-room c).Start) c.in_ok-header.ensures e in
    record { answer = r.0; lists = r.1 }

pub fill-requires : goal.fill-requires
fill-requires c =
    let e = sym c.room.ensures ∙ c.if-not-room.false in
    room c.args.file.now (before (goal.at.fill-requires c).Start) c.in_ok-header.ensures e

pub returns : goal.returns
returns c =
    let e = sym c.room.ensures ∙ c.if-not-room.false in
    let r = read_done c.args.file.now (before (goal.at.returns c).Start) c.in_ok-header.ensures e c.fill.ensures.answer c.fill.ensures.lists in
    record { answer = r.0; lists = r.1 }
