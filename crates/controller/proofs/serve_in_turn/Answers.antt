-- `serve_in_turn` writes what serving leaves into the state.
use Rattle.controller.proofs.Turns.{from_begin, state_served, report_taken, report_none}
use Rattle.controller.proofs.serve_in_turn.Goals as goal

pub serve_head-out-requires : goal.serve_head-out-requires
serve_head-out-requires c = (c.requires.0.0, from_begin c.requires.0.1 c.begin_of-o.ensures)

pub returns-in-Some : goal.returns-in-Some
returns-in-Some c = record {
  answer = λ ch w.
      let out = c.serve_head-out.ensures ch (from_begin w c.begin_of-o.ensures) in
      report_taken w c.begin_of-o.ensures out c.in-Some.is;
  state = λ ch w.
      let out = c.serve_head-out.ensures ch (from_begin w c.begin_of-o.ensures) in
      state_served w c.begin_of-o.ensures out c.write_counts.ensures;
}

pub returns-in-None : goal.returns-in-None
returns-in-None c = record {
  answer = λ ch w.
      let out = c.serve_head-out.ensures ch (from_begin w c.begin_of-o.ensures) in
      report_none w c.begin_of-o.ensures out c.in-None.is;
  state = λ ch w.
      let out = c.serve_head-out.ensures ch (from_begin w c.begin_of-o.ensures) in
      state_served w c.begin_of-o.ensures out c.write_counts.ensures;
}
