-- `serve` reads the file, which holds a chart, and serves the event by the lists.
use mathlib.Core.Path.{◌≡◌, sym, subst}
use mathlib.Core.List.{List}
use Prim.Native.Nat.{ℕ}
use Rattle.model.specs.Answer.{returned}
use Rattle.model.specs.Chart.{Chart}
use Rattle.file_format.specs.File.{chart_in}
use Rattle.file_format.specs.Parse.{Bytes}
use Rattle.file_format.proofs.File.{reads_valid}
use Rattle.chart_lists.specs.Lists.{Lists, lists_of, put_lists}
use Rattle.chart_lists.specs.Holds.{Holds}
use Rattle.chart_lists.proofs.Holds.{holds_put}
use Rattle.judgement.proofs.Reading.{bytes_are, header_read_lem, refused_none}
use Rattle.serving.proofs.Held.{holds_event}
use Rattle.serving.proofs.serve.Goals as goal

-- the lists that are filled hold the chart
held : (file : List ℕ) → Bytes file → (c : Chart) → chart_in file ≡ returned c → (before : Lists) {after read : Lists}
    → after ≡ put_lists (lists_of c) before → read ≡ after → Holds c read
held file bytes c q before e same = subst (Holds c) (sym same) (holds_put (reads_valid file c bytes q) before e)

pub returns-in_default : goal.returns-in_default
returns-in_default c = λ ch q.
    absurd (refused_none c.args.file.now c.in_default.ensures.answer ch q)

pub serve_lists-requires : goal.serve_lists-requires
serve_lists-requires c =
    let file : List ℕ = c.args.file.now in
    let q = c.requires.file_value in
    let bytes : Bytes file = bytes_are file (λ i. (c.type_inv.file i).fits) in
    record {
      header_value = (
        q.0,
        header_read_lem file c.in-Ok.ensures.answer q.1,
        holds_event (held file bytes q.0 q.1 _ (c.in-Ok.ensures.lists q.0 q.1) c.lists.ensures),
      );
      sound_serving = c.requires.sound_serving;
    }

pub returns : goal.returns
returns c = λ ch q x w.
    let file : List ℕ = c.args.file.now in
    let bytes : Bytes file = bytes_are file (λ i. (c.type_inv.file i).fits) in
    c.serve_lists.ensures ch (header_read_lem file c.in-Ok.ensures.answer q)
    (holds_event (held file bytes ch q _ (c.in-Ok.ensures.lists ch q) c.lists.ensures)) x w
