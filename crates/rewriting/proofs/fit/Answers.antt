-- `fit` meets its contract: the board's limit refuses, or the numbers fit and the writer's answer decides.
use mathlib.Core.Path.{refl, ◌∙◌}
use mathlib.Core.List.{List}
use Prim.Native.Nat.{ℕ, ◌*◌, ◌≤◌}
use native.Mathlib.Omega.{arith}
use lib.ListN.{length}
use Rattle.model.specs.Chart.{Chart}
use Rattle.model.specs.Spare.{reached_part}
use Rattle.model.specs.Places.{ReachedIfAsked}
use Rattle.model.specs.Rewrite.{board_numbering}
use Rattle.model.proofs.Judgement.{accepted}
use Rattle.chart_lists.specs.Limits.{most_locations}
use Rattle.chart_lists.specs.Lists.{Lists}
use Rattle.chart_lists.specs.declared.Header.{Header}
use Rattle.chart_lists.proofs.Fronts.{locations_are}
use Rattle.chart_lists.proofs.Partly.{holds_edges}
use Rattle.allocation.specs.Cells.{most_cells}
use Rattle.list_judging.proofs.Answers.{passed_on}
use Rattle.rewriting.specs.Parts.{JudgedChart}
use Rattle.rewriting.proofs.Order.{fitted_into_lem, values_refused, buffer_refused}
use Rattle.rewriting.proofs.Board.{board_used, board_cells, board_storable}
use Rattle.rewriting.proofs.Written.{values_written, buffer_written}
use Rattle.rewriting.proofs.fit.Goals as goal

-- every location is reached that 9 asks for
reached : {d : Chart} {m : Header} {l : Lists} {sets : List ℕ} → JudgedChart d m l sets → ReachedIfAsked d
reached j = ((accepted j.storable.valid).0 j.accepted).reached

pub number_chart-numbered-requires : goal.number_chart-numbered-requires
number_chart-numbered-requires c =
    let j = c.requires.1 in
    let most : c.args.header.locations ≤ most_locations = omega (arith, locations_are c.requires.0 j.header_is, j.storable.valid.few_locations) in
    let cells : 64 * c.args.header.locations ≤ most_cells = omega (arith, most) in
    ((c.requires.0, record { header_is = j.header_is; edges = holds_edges j.held; tested_are = j.tested }, reached j), most, most, cells, most)

pub returns-in_err-judge_limit : goal.returns-in_err-judge_limit
returns-in_err-judge_limit c = record {
  answer = λ d j.
      let x = c.number_chart-numbered.ensures d (record { header_is = j.header_is; edges = holds_edges j.held; tested_are = j.tested }) (reached j) in
      let stops = fitted_into_lem c.args.k (length c.args.out.now) d (c.in_err-judge_limit.ensures.answer d x.used_is) in
      passed_on _ _ c.from_residual.ensures ∙ values_refused stops;
  lent = λ d j.
      let x = c.number_chart-numbered.ensures d (record { header_is = j.header_is; edges = holds_edges j.held; tested_are = j.tested }) (reached j) in
      buffer_refused (fitted_into_lem c.args.k (length c.args.out.now) d (c.in_err-judge_limit.ensures.answer d x.used_is)) c.args.out.now;
}

pub overflow_cast-used : goal.overflow_cast-used
overflow_cast-used c = let f = c.in_ok-judge_limit.ensures.fits refl in omega (arith, f.0, f.1)

pub write_cleared-requires : goal.write_cleared-requires
write_cleared-requires c =
    let j = c.requires.1 in
    let d = c.requires.0 in
    let x = c.number_chart-numbered.ensures d (record { header_is = j.header_is; edges = holds_edges j.held; tested_are = j.tested }) (reached j) in
    let u : c.number_chart-numbered.result.used ≤ 64 = let f = c.in_ok-judge_limit.ensures.fits refl in omega (arith, f.0, f.1) in
    (d, board_numbering (reached_part d), j.header_is, reached j, j.held, board_cells j.storable j.accepted x u)

pub returns-in_err-length : goal.returns-in_err-length
returns-in_err-length c = record {
  answer = λ d j.
      let x = c.number_chart-numbered.ensures d (record { header_is = j.header_is; edges = holds_edges j.held; tested_are = j.tested }) (reached j) in
      let u : c.number_chart-numbered.result.used ≤ 64 = let f = c.in_ok-judge_limit.ensures.fits refl in omega (arith, f.0, f.1) in
      let r = c.in_err-length.ensures.answer d (board_numbering (reached_part d)) j.header_is (reached j) j.held
      (board_cells j.storable j.accepted x u) (board_storable j.storable j.accepted x u) (board_used j.storable j.accepted x) in
      passed_on _ _ c.from_residual-in_err-length.ensures
      ∙ values_written c.args.k (length c.args.out.now) d (c.in_ok-judge_limit.ensures.answer d x.used_is) x.used_is r;
  lent = λ d j.
      let x = c.number_chart-numbered.ensures d (record { header_is = j.header_is; edges = holds_edges j.held; tested_are = j.tested }) (reached j) in
      let u : c.number_chart-numbered.result.used ≤ 64 = let f = c.in_ok-judge_limit.ensures.fits refl in omega (arith, f.0, f.1) in
      c.in_err-length.ensures.lent d (board_numbering (reached_part d)) j.header_is (reached j) j.held
      (board_cells j.storable j.accepted x u) (board_storable j.storable j.accepted x u) (board_used j.storable j.accepted x)
      ∙ buffer_written c.args.k (length c.args.out.now) d (c.in_ok-judge_limit.ensures.answer d x.used_is) c.args.out.now;
}

pub returns : goal.returns
returns c = record {
  answer = λ d j.
      let x = c.number_chart-numbered.ensures d (record { header_is = j.header_is; edges = holds_edges j.held; tested_are = j.tested }) (reached j) in
      let u : c.number_chart-numbered.result.used ≤ 64 = let f = c.in_ok-judge_limit.ensures.fits refl in omega (arith, f.0, f.1) in
      let r = c.in_ok-length.ensures.answer d (board_numbering (reached_part d)) j.header_is (reached j) j.held
      (board_cells j.storable j.accepted x u) (board_storable j.storable j.accepted x u) (board_used j.storable j.accepted x) in
      values_written c.args.k (length c.args.out.now) d (c.in_ok-judge_limit.ensures.answer d x.used_is) x.used_is r;
  lent = λ d j.
      let x = c.number_chart-numbered.ensures d (record { header_is = j.header_is; edges = holds_edges j.held; tested_are = j.tested }) (reached j) in
      let u : c.number_chart-numbered.result.used ≤ 64 = let f = c.in_ok-judge_limit.ensures.fits refl in omega (arith, f.0, f.1) in
      c.in_ok-length.ensures.lent d (board_numbering (reached_part d)) j.header_is (reached j) j.held
      (board_cells j.storable j.accepted x u) (board_storable j.storable j.accepted x u) (board_used j.storable j.accepted x)
      ∙ buffer_written c.args.k (length c.args.out.now) d (c.in_ok-judge_limit.ensures.answer d x.used_is) c.args.out.now;
}
