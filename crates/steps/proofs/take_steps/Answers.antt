-- `take_steps` takes one step after another. The laws of a list of steps say what each leaves.
use native.Mathlib.Omega.{arith}
use Rattle.std.proofs.lemmas.Result.{err_from_is_err_and}
use Rattle.steps.proofs.StepLists.{reached_start, reached_next, reached_refused, reached_end}
use Rattle.steps.specs.Stepping.{Shows}
use Rattle.steps.proofs.take_steps.Goals as goal

pub loop-k-init : goal.loop-k-init
loop-k-init c = (c.requires.n_value, c.requires.small, c.requires.times_len, λ ch n f L s w. reached_start w)

pub step-requires : goal.step-requires
step-requires c = record { n_value = c.loop-k.invariant.0; small_2 = c.loop-k.invariant.1 }

pub returns-in_err-step : goal.returns-in_err-step
returns-in_err-step c = λ ch n f L s w.
    let p = err_from_is_err_and c.from_residual.result c.from_residual.ensures.1 in
    let tried = c.in_err-step.ensures.answer ch n f L in
    rw (p.1, p.2) (reached_refused (c.loop-k.invariant.3 ch n f L s w) (omega arith) (λ (done : Unit {0}). c.step.new.state) Shows _ tried)

pub loop-k-preserved : goal.loop-k-preserved
loop-k-preserved c = (
  c.loop-k.invariant.0,
  c.step.ensures.small,
  c.loop-k.invariant.2,
  λ ch n f L s w.
      let tried = c.in_ok-step.ensures.answer ch n f L in
      reached_next (c.loop-k.invariant.3 ch n f L s w) (omega arith) (λ (done : Unit {0}). c.step.new.state) _ tried,
)

pub returns : goal.returns
returns c = λ ch n f L s w. reached_end (c.loop-k.invariant.3 ch n f L s w) (omega arith) Shows _ (λ s w. w)
