-- `play_steps` finds where the tests begin and takes the steps from tick 0 on. Each callee is asked for the same chart.
use native.Mathlib.Omega.{arith}
use Rattle.model.specs.Run.{outcome}
use Rattle.chart_lists.proofs.Fronts.{transitions_are, initial_is}
use Rattle.steps.proofs.Held.{holds_counts}
use Rattle.steps.proofs.Starting.{starting_small, starting_shows}
use Rattle.steps.proofs.play_steps.Goals as goal

pub find_firsts-requires : goal.find_firsts-requires
find_firsts-requires c =
    let p = c.requires.header_value in
    let number = transitions_are p.0 p.1 in
    record { n_value = (p.0, number, holds_counts p.2); n_in_bounds = omega (arith, number, p.2.valid.few_transitions) }

pub take_steps-requires : goal.take_steps-requires
take_steps-requires c =
    let p = c.requires.header_value in
    let number = transitions_are p.0 p.1 in
    record {
      n_value = (p.0, number, c.find_firsts.ensures.places p.0 number (holds_counts p.2), p.2);
      small = starting_small c.starting_counts.ensures c.requires.allowed _;
      times_len = c.requires.times_len;
    }

pub returns : goal.returns
unfolding outcome
returns c = λ ch e h.
    let firsts = c.find_firsts.ensures.places ch (transitions_are ch e) (holds_counts h) in
    c.take_steps.ensures ch (transitions_are ch e) firsts h _ (starting_shows c.starting_counts.ensures ch _ (initial_is ch e))
