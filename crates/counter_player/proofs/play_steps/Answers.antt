-- `play_steps` judges 18 and takes the steps from tick 0 on. Each callee is asked for the same chart.
use Rattle.std.proofs.Common.{◌≡◌, Bool, sym, refl, ◌∙◌, arith}
use Rattle.std.proofs.lemmas.Result.{err_from_is_err_and}
use Rattle.model.specs.Answer.{returned}
use Rattle.model.specs.Chart.{Chart}
use Rattle.model.specs.Run.{accepts}
use Rattle.chart_lists.proofs.Fronts.{transitions_are, initial_is}
use Rattle.steps.proofs.Held.{holds_steps, holds_counts}
use Rattle.player.proofs.Accepting.{accepts_at, accepting_front, accepting_long}
use Rattle.player.proofs.Arrivals.{taken_answer, refused_answer}
use Rattle.counter_model.specs.CounterRun.{CounterState, counter_outcome}
use Rattle.counter_model.specs.CounterPlayer.{counter_arrival, counter_answer_of}
use Rattle.counter_player.specs.declared.stepping.State.{State}
use Rattle.counter_player.specs.Stepping.{Shows, LeftAs}
use Rattle.counter_player.proofs.RisenCounts.{starting_shows}
use Rattle.counter_player.proofs.LargeConstants.{constants_room, constants_large}
use Rattle.counter_player.proofs.play_steps.Goals as goal

-- the last location, with whether it is in the list of the accepting ones
arrives : (c : Chart) (x : State) (s : CounterState) (b : Bool) → Shows x s → b ≡ accepts c s.location
    → returned (record { location = x.location; accepting = b }) ≡ counter_arrival c s
unfolding counter_arrival
arrives c x s b w e = rw (w.location, e) refl

pub find_firsts-tests-requires : goal.find_firsts-tests-requires
find_firsts-tests-requires c =
    let p = c.requires.header_value in
    let number = transitions_are p.0 p.1 in
    record { n_value = (p.0, number, holds_counts p.2); n_in_bounds = omega (arith, number, p.2.valid.few_transitions) }

pub large_among-requires : goal.large_among-requires
large_among-requires c =
    let p = c.requires.header_value in
    constants_room p.2 (c.find_firsts-tests.ensures.number p.0 (transitions_are p.0 p.1) (holds_counts p.2))

pub returns-then-large_among : goal.returns-then-large_among
returns-then-large_among c = λ ch e h.
    let number = c.find_firsts-tests.ensures.number ch (transitions_are ch e) (holds_counts h) in
    rw ((constants_large h number ∙ sym c.large_among.ensures) ∙ c.if-large_among.true) refl

pub take_steps-requires : goal.take_steps-requires
take_steps-requires c =
    let p = c.requires.header_value in
    let number = transitions_are p.0 p.1 in
    record {
      n_value = (p.0, number, c.find_firsts-tests.ensures.places p.0 number (holds_counts p.2), holds_steps p.2);
      readings_len = c.requires.readings_len;
    }

pub slice_bounds-accepts-end : goal.slice_bounds-accepts-end
slice_bounds-accepts-end c = let p = c.requires.header_value in accepting_long p.0 p.1 p.2

pub returns-in_err-take_steps : goal.returns-in_err-take_steps
unfolding counter_answer_of counter_outcome
returns-in_err-take_steps c = λ ch e h.
    let p = err_from_is_err_and c.from_residual.result c.from_residual.ensures.1 in
    let number = c.find_firsts-tests.ensures.number ch (transitions_are ch e) (holds_counts h) in
    let firsts = c.find_firsts-tests.ensures.places ch (transitions_are ch e) (holds_counts h) in
    let begins = starting_shows c.starting_counts.ensures ch _ _ (initial_is ch e) in
    let small = (constants_large h number ∙ sym c.large_among.ensures) ∙ c.if-large_among.false in
    let told = c.in_err-take_steps.ensures.answer ch (transitions_are ch e) firsts (holds_steps h) _ begins in
    rw (p.1, p.2, small) (refused_answer (LeftAs c.take_steps.new.state) _ (counter_arrival ch) _ told)

pub returns : goal.returns
unfolding counter_answer_of counter_outcome
returns c = λ ch e h.
    let number = c.find_firsts-tests.ensures.number ch (transitions_are ch e) (holds_counts h) in
    let firsts = c.find_firsts-tests.ensures.places ch (transitions_are ch e) (holds_counts h) in
    let begins = starting_shows c.starting_counts.ensures ch _ _ (initial_is ch e) in
    let small = (constants_large h number ∙ sym c.large_among.ensures) ∙ c.if-large_among.false in
    let taken = c.in_ok-take_steps.ensures.answer ch (transitions_are ch e) firsts (holds_steps h) _ begins in
    rw small (taken_answer (LeftAs c.take_steps.new.state) _ (counter_arrival ch) _ taken
    (λ s w. arrives ch _ s _ w (accepts_at ch _ c.accepts.ensures (accepting_front ch e h) w.location)))
