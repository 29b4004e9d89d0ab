-- `judge_tests` meets its contract: the turns are those of a loop over items, a test at each place.
use mathlib.Core.Path.{◌≡◌, refl, sym, ap, ◌∙◌}
use native.Mathlib.Nat.{add-zero}
use native.Mathlib.Omega.{arith}
use Rattle.model.specs.Answer.{returned}
use Rattle.list_judging.proofs.Answers.{passed_on}
use Rattle.list_judging.proofs.Items.{turn_done, turn_refused, turn_again}
use Rattle.list_judging.proofs.Turns.{tests_first, test_refused, test_found}
use Rattle.list_judging.proofs.transition.judge_tests.Goals as goal

pub loop-t-init : goal.loop-t-init
loop-t-init c = rw (add-zero c.args.k) (tests_first _ _ _ _ _)

pub returns-in_err-judge_test : goal.returns-in_err-judge_test
returns-in_err-judge_test c =
    passed_on _ _ c.from_residual.ensures
    ∙ sym (turn_refused c.loop-t.invariant c.loop-t-test.true (test_refused _ _ _ _ (sym c.in_err-judge_test.ensures)))

pub loop-t-preserved : goal.loop-t-preserved
loop-t-preserved c = let h = test_found _ _ _ _ (sym c.in_ok-judge_test.ensures) in
    turn_again c.loop-t.invariant c.loop-t-test.true _ _ _ h.1 (omega arith) refl refl

pub returns : goal.returns
returns c =
    let all : c.args.g ≡ c.loop-t.t = omega (arith, c.loop-t.invariant.most) in
    ap returned all ∙ sym (turn_done c.loop-t.invariant c.loop-t-test.false)
