-- `put_file`: the text of the numbered chart, or of the refusal. What is hard is only to say once what the numbers mean.
use mathlib.Core.Path.{sym, ap, ◌∙◌}
use native.Mathlib.Omega.{arith}
use lib.ListN.{length}
use Rattle.refusal.specs.Reason.{number_of}
use Rattle.numbering.specs.declared.FileNumbers.{FileNumbers}
use Rattle.numbering.specs.FileNumbers.{file_numbers}
use Rattle.listing.specs.Listing.{answer_text}
use Rattle.listing.proofs.PutBytes.{bytes_as}
use Rattle.listing.proofs.Fits.{refused_fits}
use Rattle.listing.proofs.ChartText.{text_is, text_asks}
use Rattle.listing.proofs.Board.{board_chart, refused_board, accepted_few}
use Rattle.listing.proofs.put_file.Goals as goal

pub put_chart-requires : goal.put_chart-requires
put_chart-requires c =
    let K = c.args.limit in
    let n = board_chart K c.args.file.now c.in-Ok.ensures.answer in
    let l = c.in-Ok.ensures.lists n.chart n.accepted_is in
    text_asks l.valid (accepted_few K c.args.file.now n.accepted_is) l.cells_are n.numbers_are K (length c.args.out.now) c.requires
    (omega (arith, c.number_board.auto.cells))

pub put_refusal-requires : goal.put_refusal-requires
put_refusal-requires c = omega (arith, refused_fits (number_of c.in-Err.f.reason) c.in-Err.f.place, c.requires)

pub returns-in-Ok : goal.returns-in-Ok
returns-in-Ok c =
    let K = c.args.limit in
    let n = board_chart K c.args.file.now c.in-Ok.ensures.answer in
    let l = c.in-Ok.ensures.lists n.chart n.accepted_is in
    let text = text_is l.valid (accepted_few K c.args.file.now n.accepted_is) l.cells_are n.numbers_are K in
    bytes_as c.put_chart.ensures (text ∙ sym (ap (answer_text K) n.accepted_is))

pub returns-in-Err : goal.returns-in-Err
returns-in-Err c =
    let K = c.args.limit in
    bytes_as c.put_refusal.ensures (sym (ap (answer_text K) (refused_board K c.args.file.now c.in-Err.ensures.answer)))
