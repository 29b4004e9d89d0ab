-- `play_chart` has 12 and 13 judged, then the steps decide, and the last location accepts or not. What is judged first is one call.
use mathlib.Core.Path.{◌≡◌, refl, sym, ◌∙◌}
use mathlib.Core.Bool.{Bool}
use Rattle.std.proofs.lemmas.Result.{err_from_is_err_and}
use Rattle.model.specs.Answer.{returned}
use Rattle.model.specs.Chart.{Chart}
use Rattle.model.specs.Run.{State as Run-as-State, accepts}
use Rattle.model.specs.Player.{arrival, answer_of}
use Rattle.chart_lists.proofs.Fronts.{timers_are}
use Rattle.steps.specs.declared.State.{State}
use Rattle.steps.specs.Stepping.{Shows}
use Rattle.steps.proofs.Held.{holds_steps}
use Rattle.player.specs.Playing.{judged_to13}
use Rattle.player.proofs.Accepting.{accepts_at, accepting_front, accepting_long}
use Rattle.player.proofs.Arrivals.{taken_answer, refused_answer}
use Rattle.player.proofs.Inputs.{after_inputs_lem, allowed, one_length}
use Rattle.player.proofs.play_chart.Goals as goal

-- the last location and its time, with whether it is in the list of the accepting ones
arrives : (c : Chart) (x : State) (s : Run-as-State) (b : Bool) → Shows x s → b ≡ accepts c s.location
    → returned (record { location = x.location; time = x.time; accepting = b }) ≡ arrival c s
unfolding arrival
arrives c x s b w e = rw (w.location, w.time, e) refl

pub returns-in_err-judge_inputs : goal.returns-in_err-judge_inputs
unfolding judged_to13
returns-in_err-judge_inputs c = λ ch e held.
    let p = err_from_is_err_and c.from_residual.result c.from_residual.ensures.1 in
    rw (p.1, p.2) (after_inputs_lem ch _ _ _ (c.in_err-judge_inputs.ensures ch (timers_are ch e)) _ ∙ refl)

pub play_steps-requires : goal.play_steps-requires
play_steps-requires c =
    let p = c.requires in
    let e = c.in_ok-judge_inputs.ensures p.0 (timers_are p.0 p.1) in
    record {
      header_value = (p.0, p.1, holds_steps p.2);
      allowed = allowed p.0 _ _ _ e p.2.valid.few_timers;
      times_len = sym (one_length p.0 _ _ _ e);
    }

pub returns-in_err-last : goal.returns-in_err-last
unfolding judged_to13 answer_of
returns-in_err-last c = λ ch e held.
    let p = err_from_is_err_and c.from_residual-in_err-last.result c.from_residual-in_err-last.ensures.1 in
    let out = refused_answer Shows _ (arrival ch) _ (c.in_err-last.ensures ch e (holds_steps held)) in
    rw (p.1, p.2) (out ∙ after_inputs_lem ch _ _ _ (c.in_ok-judge_inputs.ensures ch (timers_are ch e)) _ ∙ refl)

pub slice_bounds-accepts-end : goal.slice_bounds-accepts-end
slice_bounds-accepts-end c = accepting_long c.requires.0 c.requires.1 c.requires.2

pub returns : goal.returns
unfolding judged_to13 answer_of
returns c = λ ch e held.
    let out = taken_answer Shows _ (arrival ch) _ (c.in_ok-last.ensures ch e (holds_steps held))
    (λ s w. arrives ch _ s _ w (accepts_at ch _ c.accepts.ensures (accepting_front ch e held) w.location)) in
    out ∙ after_inputs_lem ch _ _ _ (c.in_ok-judge_inputs.ensures ch (timers_are ch e)) _ ∙ refl
