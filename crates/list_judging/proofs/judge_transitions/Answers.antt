-- `judge_transitions` meets its contract: the turns are those of a loop over items. What is hard is that the sums are no large numbers: a transition
-- starts at most 64 timers and has at most 8 tests.
use mathlib.Core.Path.{◌≡◌, sym, ◌∙◌}
use Prim.Native.Nat.{ℕ, ◌*◌, ◌≤◌, ◌<◌}
use native.Mathlib.Omega.{arith}
use lib.ListN.{length}
use Rattle.model.specs.Answer.{returned}
use Rattle.model.specs.Chart.{Transition}
use Rattle.chart_lists.specs.Lists.{Lists}
use Rattle.chart_lists.specs.declared.Header.{Header}
use Rattle.list_judging.specs.declared.transition.Sizes.{Sizes}
use Rattle.list_judging.specs.FromLists.{transition_from}
use Rattle.list_judging.specs.Parts.{check_transition}
use Rattle.list_judging.proofs.Answers.{passed_on}
use Rattle.list_judging.proofs.Items.{turn_done, turn_refused}
use Rattle.list_judging.proofs.Turns.{transitions_first, transition_refused, transition_found}
use Rattle.list_judging.proofs.Turns.{transitions_again, from_few, length_sizes}
use Rattle.list_judging.proofs.judge_transitions.Goals as goal

-- what is known of the transition of a turn and of the sums so far
record Next (l : Lists) (m : Header) (sum : Sizes) (i : ℕ) (sizes : Sizes) : Type 0 where
  transition : Transition
  is : transition_from l m.locations m.timers i sum.tests ≡ returned transition
  starts_are : length transition.starts ≡ sizes.starts
  tests_are : length transition.tests ≡ sizes.tests
  few_starts : sizes.starts ≤ 64
  few_tests : sizes.tests ≤ 8
  few_started : sum.starts ≤ 64 * i
  few_before : sum.tests ≤ 8 * i
  small : i < 65536

next : {l : Lists} {m : Header} {sum : Sizes} {i : ℕ} {sizes : Sizes} → returned sizes ≡ check_transition l m.locations m.timers i sum.tests
    → sum.starts ≤ 64 * i → sum.tests ≤ 8 * i → i < 65536 → Next l m sum i sizes
next {l} {m} {sum} {i} {sizes} e a b c =
    let h = transition_found l m.locations m.timers i sum.tests (sym e) in
    let z = length_sizes h.0 sizes.starts sizes.tests h.2 in
    let few = from_few l m.locations m.timers i sum.tests h.0 h.1 in
    record {
      transition = h.0;
      is = h.1;
      starts_are = z.0;
      tests_are = z.1;
      few_starts = omega (arith, z.0, few.0);
      few_tests = omega (arith, z.1, few.1);
      few_started = a;
      few_before = b;
      small = c;
    }

pub loop-i-init : goal.loop-i-init
loop-i-init c = (transitions_first _ _ _ _, omega arith, omega arith)

pub returns-in_err-sizes : goal.returns-in_err-sizes
returns-in_err-sizes c =
    passed_on _ _ c.from_residual.ensures
    ∙ sym (turn_refused c.loop-i.invariant.0 c.loop-i-test.true (transition_refused _ _ _ _ _ (sym c.in_err-sizes.ensures)))

pub overflow_add-sum : goal.overflow_add-sum
overflow_add-sum c =
    let h = next {m = c.args.header} c.in_ok-sizes.ensures c.loop-i.invariant.1 c.loop-i.invariant.2 (omega (arith, c.loop-i-test.true)) in
    omega arith

pub overflow_add-sum-in-loop-i : goal.overflow_add-sum-in-loop-i
overflow_add-sum-in-loop-i c =
    let h = next {m = c.args.header} c.in_ok-sizes.ensures c.loop-i.invariant.1 c.loop-i.invariant.2 (omega (arith, c.loop-i-test.true)) in
    omega arith

pub loop-i-preserved : goal.loop-i-preserved
loop-i-preserved c =
    let h = next {m = c.args.header} c.in_ok-sizes.ensures c.loop-i.invariant.1 c.loop-i.invariant.2 (omega (arith, c.loop-i-test.true)) in (
      transitions_again _ _ _ c.loop-i.invariant.0 c.loop-i-test.true h.transition h.is h.starts_are h.tests_are,
      omega (arith, h.few_started, h.few_starts),
      omega (arith, h.few_before, h.few_tests),
    )

pub returns : goal.returns
returns c = sym (turn_done c.loop-i.invariant.0 c.loop-i-test.false)
