-- `judge_counts` judges the starting counts of one head after another: those that are left decide.
use mathlib.Core.Path.{refl, sym, ap, ◌∙◌}
use mathlib.Core.List.{List}
use Prim.Native.Nat.{ℕ}
use native.Mathlib.Omega.{arith}
use Rattle.std.proofs.lemmas.Result.{err_from_is_err_and}
use Rattle.lists.proofs.Nth.{nth_below}
use Rattle.model.specs.Answer.{returned}
use Rattle.model.specs.Player.{counts_judged}
use Rattle.controller_model.specs.Heads.{head_counts}
use Rattle.heads.proofs.Blocks.{timers_of_lem}
use Rattle.heads.proofs.Counts.{counts_next, counts_end}
use Rattle.heads.proofs.judge_counts.Goals as goal

pub loop-h-init : goal.loop-h-init
loop-h-init c = λ cs e are. refl

pub returns-in_err-judge_counts : goal.returns-in_err-judge_counts
returns-in_err-judge_counts c = λ cs e are.
    let x = nth_below cs c.loop-h.h (omega (arith, e)) in
    let says = c.in_err-judge_counts.ensures x.0 (timers_of_lem are c.loop-h.h x.0 x.1) in
    let p = err_from_is_err_and c.from_residual.result c.from_residual.ensures.1 in
    rw (p.1, p.2) (sym (c.loop-h.invariant cs e are
    ∙ counts_next (head_counts c.args.counts.now c.args.parts) (returned tt) cs c.loop-h.h x.1
    (says ∙ ap (λ (v : List ℕ). counts_judged x.0 v (returned tt)) c.part_of.ensures)))

pub loop-h-preserved : goal.loop-h-preserved
loop-h-preserved c = λ cs e are.
    let x = nth_below cs c.loop-h.h (omega (arith, e)) in
    let says = c.in_ok-judge_counts.ensures x.0 (timers_of_lem are c.loop-h.h x.0 x.1) in
    c.loop-h.invariant cs e are
    ∙ counts_next (head_counts c.args.counts.now c.args.parts) (returned tt) cs c.loop-h.h x.1
    (says ∙ ap (λ (v : List ℕ). counts_judged x.0 v (returned tt)) c.part_of.ensures)

pub returns : goal.returns
returns c = λ cs e are. sym (c.loop-h.invariant cs e are ∙ counts_end _ (returned tt) cs c.loop-h.h (omega (arith, e)))
