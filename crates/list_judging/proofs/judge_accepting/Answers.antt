-- `judge_accepting` meets its contract: the turns are those of a loop over items, each above the one before it.
use mathlib.Core.Path.{◌≡◌, refl, sym, ap, ◌∙◌}
use native.Mathlib.Omega.{arith}
use Rattle.model.specs.Answer.{returned}
use Rattle.list_judging.proofs.ListEntries.{limited_refused, entry_limited, below_some}
use Rattle.list_judging.proofs.Answers.{passed_on}
use Rattle.list_judging.proofs.Items.{turn_done, turn_refused, turn_again}
use Rattle.list_judging.proofs.Turns.{accepting_first, accepting_refused, accepting_low, accepting_in}
use Rattle.list_judging.proofs.judge_accepting.Goals as goal

pub loop-k-init : goal.loop-k-init
loop-k-init c = accepting_first _ _ _

pub returns-in_err-x : goal.returns-in_err-x
returns-in_err-x c =
    let entry = limited_refused _ _ _ (sym c.in_err-x.ensures) in
    passed_on _ _ c.from_residual.ensures ∙ sym (turn_refused c.loop-k.invariant c.loop-k-test.true (accepting_refused _ _ _ _ entry))

pub returns-in_err-x-2 : goal.returns-in_err-x-2
returns-in_err-x-2 c =
    let entry = sym (entry_limited _ _ _ _ _ c.in_ok-x.ensures c.in_err-x-2.ensures) in
    passed_on _ _ c.from_residual-in_err-x-2.ensures
    ∙ sym (turn_refused c.loop-k.invariant c.loop-k-test.true (accepting_refused _ _ _ _ entry))

pub returns-then-x-lowest : goal.returns-then-x-lowest
returns-then-x-lowest c =
    let entry = sym (entry_limited _ _ _ _ _ c.in_ok-x.ensures c.in_ok-x-2.ensures) in
    sym (turn_refused c.loop-k.invariant c.loop-k-test.true (accepting_low _ _ _ _ entry c.if-x-lowest.true))

pub overflow_add-lowest : goal.overflow_add-lowest
overflow_add-lowest c =
    let entry = sym (entry_limited _ _ _ _ _ c.in_ok-x.ensures c.in_ok-x-2.ensures) in
    omega (arith, (below_some _ _ _ _ _ entry).1)

pub loop-k-preserved : goal.loop-k-preserved
loop-k-preserved c =
    let entry = sym (entry_limited _ _ _ _ _ c.in_ok-x.ensures c.in_ok-x-2.ensures) in
    let item = accepting_in _ _ _ _ entry c.if-x-lowest.false in
    turn_again c.loop-k.invariant c.loop-k-test.true _ _ _ item (omega arith) (omega arith) refl

pub returns : goal.returns
returns c =
    let all : c.args.n ≡ c.loop-k.k = omega (arith, c.loop-k.invariant.most) in
    ap returned all ∙ sym (turn_done c.loop-k.invariant c.loop-k-test.false)
