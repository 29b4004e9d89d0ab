-- `take_turn` passes the turn on, or the head serves its event. The laws take the code's test as it is.
use mathlib.Core.Path.{ap, ◌∙◌}
use native.Mathlib.Omega.{arith}
use Rattle.controller_model.specs.Serving.{Done}
use Rattle.controller.proofs.HeadInTurn.{turn_few, some_head}
use Rattle.controller.proofs.Turns.{passing_report, passing_state, serves_in_turn}
use Rattle.controller.proofs.take_turn.Goals as goal

pub offset_bounds-state-i : goal.offset_bounds-state-i
offset_bounds-state-i c = record { fits = omega (arith, (turn_few c.requires.1 c.args.state.now c.requires.2)) }

pub bounds-state-i : goal.bounds-state-i
bounds-state-i c = turn_few c.requires.1 c.args.state.now c.requires.2

pub overflow_add-state : goal.overflow_add-state
overflow_add-state c = record { fits = omega (arith, (turn_few c.requires.1 c.args.state.now c.requires.2)) }

pub nonzero_rem-state : goal.nonzero_rem-state
nonzero_rem-state c = some_head c.requires.1 c.args.state.now c.requires.2

pub returns-then-state-i-eq0 : goal.returns-then-state-i-eq0
returns-then-state-i-eq0 c = record {
  answer = λ cs r e. passing_report r c.args.state.now e c.if-state-i-eq0.true;
  state = λ cs r e. passing_state r c.args.state.now e c.if-state-i-eq0.true;
}

pub serve_in_turn-requires : goal.serve_in_turn-requires
serve_in_turn-requires c =
    let q = serves_in_turn c.requires.1 c.args.state.now c.requires.2 c.if-state-i-eq0.false in
    ((q.chart, rw c.from.ensures q.in_turn), some_head c.requires.1 c.args.state.now c.requires.2)

pub returns : goal.returns
returns c = record {
  answer = λ cs r e. let q = serves_in_turn r c.args.state.now e c.if-state-i-eq0.false in
      c.serve_in_turn.ensures.answer q.chart (rw c.from.ensures q.in_turn) ∙ ap (λ (d : Done). d.report) q.is;
  state = λ cs r e. let q = serves_in_turn r c.args.state.now e c.if-state-i-eq0.false in
      c.serve_in_turn.ensures.state q.chart (rw c.from.ensures q.in_turn) ∙ ap (λ (d : Done). d.state) q.is;
}
