-- `play_chart` judges 12 and 13, then 18 and the steps decide. What is judged first is judged as the player does it.
use Rattle.std.proofs.Common.{sym, refl, ◌∙◌}
use Rattle.std.proofs.lemmas.Result.{err_from_is_err_and}
use Rattle.chart_lists.proofs.Fronts.{timers_are}
use Rattle.player.specs.Playing.{judged_to13}
use Rattle.player.proofs.Inputs.{after_inputs_lem, allowed, one_length}
use Rattle.counter_player.proofs.play_chart.Goals as goal

pub returns-in_err-judge_inputs : goal.returns-in_err-judge_inputs
unfolding judged_to13
returns-in_err-judge_inputs c = λ ch e held.
    let p = err_from_is_err_and c.from_residual.result c.from_residual.ensures.1 in
    rw (p.1, p.2) (after_inputs_lem ch _ _ _ (c.in_err-judge_inputs.ensures ch (timers_are ch e)) _ ∙ refl)

pub play_steps-requires : goal.play_steps-requires
play_steps-requires c =
    let p = c.requires in
    let e = c.in_ok-judge_inputs.ensures p.0 (timers_are p.0 p.1) in
    record {
      header_value = p;
      counts_len_bound = (allowed p.0 _ _ _ e p.2.valid.few_timers).few;
      readings_len = sym (one_length p.0 _ _ _ e);
    }

pub returns : goal.returns
unfolding judged_to13
returns c = λ ch e held.
    c.play_steps.ensures ch e held ∙ after_inputs_lem ch _ _ _ (c.in_ok-judge_inputs.ensures ch (timers_are ch e)) _ ∙ refl
