-- `take_steps` takes one step after another. The laws of a list of steps say what each leaves.
use Rattle.std.proofs.Common.{refl, arith}
use Rattle.std.proofs.lemmas.Result.{err_from_is_err_and}
use Rattle.steps.proofs.StepLists.{reached_start, reached_next, reached_refused, reached_end}
use Rattle.counter_player.specs.Stepping.{LeftAs}
use Rattle.counter_player.proofs.stepping.take_steps.Goals as goal

pub loop-k-init : goal.loop-k-init
loop-k-init c = (c.requires.n_value, c.requires.readings_len, λ ch n f L s w. reached_start w)

pub step-requires : goal.step-requires
step-requires c = c.loop-k.invariant.0

pub returns-in_err-step : goal.returns-in_err-step
returns-in_err-step c =
    let p = err_from_is_err_and c.from_residual.result c.from_residual.ensures.1 in
    record {
      answer = λ ch n f L s w.
          let tried = c.in_err-step.ensures.answer ch n f L in
          let at = c.loop-k.invariant.2 ch n f L s w in
          rw (p.1, p.2) (reached_refused at (omega arith) (λ (done : Unit {0}). c.step.new.state) (LeftAs c.args.state.now) _ tried);
      kept = rw p.1 refl;
    }

pub loop-k-preserved : goal.loop-k-preserved
loop-k-preserved c = (
  c.loop-k.invariant.0,
  c.loop-k.invariant.1,
  λ ch n f L s w.
      reached_next (c.loop-k.invariant.2 ch n f L s w) (omega arith) (λ (done : Unit {0}). c.step.new.state) _ (c.in_ok-step.ensures.answer ch n f L),
)

pub returns : goal.returns
returns c = record {
  answer = λ ch n f L s w. reached_end (c.loop-k.invariant.2 ch n f L s w) (omega arith) (LeftAs c.loop-k.moved) _ (λ s w. w);
  kept = tt;
}
