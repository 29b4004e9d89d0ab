-- `enabled` decides one test a turn; those that are left decide. Hard: the chart that is asked for makes the reads safe, and the answer is that of
-- whichever chart the lists hold.
use mathlib.Core.Path.{refl, sym, ◌∙◌}
use mathlib.Core.List.{List}
use Prim.Native.Nat.{ℕ, ◌+◌, ◌≤◌, ◌<◌}
use native.Mathlib.Omega.{arith}
use lib.ListN.{length, get_or}
use Rattle.model.specs.Chart.{Test, Chart}
use Rattle.chart_lists.specs.Lists.{Lists}
use Rattle.chart_lists.specs.Holds.{Holds}
use Rattle.steps.specs.StepLists.{FirstTests}
use Rattle.steps.proofs.FirstPlaces.{end_fits}
use Rattle.steps.proofs.TransitionPlaces.{TestAt, some_transition, transition_at}
use Rattle.steps.proofs.TestTurns.{none_done, some_test, test_passed, test_failed, tests_done}
use Rattle.steps.proofs.tests.enabled.Goals as goal

-- the test that the loop is at
module _ {c : Chart} {l : Lists} {firsts : List ℕ} {i : ℕ} (a : i < length c.transitions) (f : FirstTests c firsts) (h : Holds c l) (k : ℕ)
    (low : get_or firsts i 0 ≤ k) (high : k < get_or firsts i 0 + get_or l.test_counts i 0) where
  here : (t : Test) × TestAt t k l
  here = some_test h f (some_transition c i a).1 k low high

  timer_small : get_or l.timers k 0 < 64
  timer_small = let t = here.1 in omega (arith, t.timer, t.below)

pub bounds-firsts-i : goal.bounds-firsts-i
bounds-firsts-i c = let p = c.requires.i_in_bounds in omega (arith, p.1, p.2.room)

pub overflow_cast-first : goal.overflow_cast-first
overflow_cast-first c = omega (arith, c.type_inv.firsts c.args.i)

pub bounds-lists-i : goal.bounds-lists-i
bounds-lists-i c = let p = c.requires.i_in_bounds in (transition_at p.3 (some_transition p.0 c.args.i p.1).1).number_within

pub overflow_cast-end : goal.overflow_cast-end
overflow_cast-end c = let p = c.requires.i_in_bounds in omega (arith, end_fits p.3 p.2 p.1)

pub overflow_add-end : goal.overflow_add-end
overflow_add-end c = let p = c.requires.i_in_bounds in omega (arith, end_fits p.3 p.2 p.1)

pub loop-k-init : goal.loop-k-init
loop-k-init c = (
  c.requires.i_in_bounds,
  c.requires.counts_len,
  refl,
  refl,
  omega arith,
  λ ch f h tr n v a. none_done ch tr v (get_or c.args.firsts.now c.args.i 0),
)

pub bounds-lists-k : goal.bounds-lists-k
bounds-lists-k c = let p = c.requires.i_in_bounds in (here p.1 p.2 p.3 c.loop-k.k (omega arith) (omega arith)).1.timer_within

pub overflow_cast-j : goal.overflow_cast-j
overflow_cast-j c = let p = c.requires.i_in_bounds in omega (arith, timer_small p.1 p.2 p.3 c.loop-k.k (omega arith) (omega arith))

pub bounds-lists-k-in-loop-k : goal.bounds-lists-k-in-loop-k
bounds-lists-k-in-loop-k c = let p = c.requires.i_in_bounds in (here p.1 p.2 p.3 c.loop-k.k (omega arith) (omega arith)).1.code_within

pub offset_bounds-counts-j : goal.offset_bounds-counts-j
offset_bounds-counts-j c = let p = c.requires.i_in_bounds in omega (arith, timer_small p.1 p.2 p.3 c.loop-k.k (omega arith) (omega arith))

pub bounds-counts-j : goal.bounds-counts-j
bounds-counts-j c =
    let p = c.requires.i_in_bounds in
    omega (arith, timer_small p.1 p.2 p.3 c.loop-k.k (omega arith) (omega arith), c.loop-k.invariant.1)

pub offset_bounds-lists-k : goal.offset_bounds-lists-k
offset_bounds-lists-k c = let p = c.requires.i_in_bounds in omega (arith, end_fits p.3 p.2 p.1)

pub bounds-lists-k-in-loop-k-2 : goal.bounds-lists-k-in-loop-k-2
bounds-lists-k-in-loop-k-2 c = let p = c.requires.i_in_bounds in (here p.1 p.2 p.3 c.loop-k.k (omega arith) (omega arith)).1.constant_within

pub returns-then-not-test_met : goal.returns-then-not-test_met
returns-then-not-test_met c ch f h tr n v a =
    let fails = test_failed h f n _ v a c.loop-k.k (omega arith) (omega arith) (λ x e. sym c.if-not-test_met.true ∙ c.test_met.ensures x e) in
    sym (c.loop-k.invariant.5 ch f h tr n v a ∙ fails)

pub loop-k-preserved : goal.loop-k-preserved
loop-k-preserved c = (
  c.loop-k.invariant.0,
  c.loop-k.invariant.1,
  c.loop-k.invariant.2,
  c.loop-k.invariant.3,
  omega arith,
  λ ch f h tr n v a.
      let met = test_passed h f n _ v a c.loop-k.k (omega arith) (omega arith) (λ x e. sym c.if-not-test_met.false ∙ c.test_met.ensures x e) in
      c.loop-k.invariant.5 ch f h tr n v a ∙ met,
)

pub returns : goal.returns
returns c ch f h tr n v a = sym (c.loop-k.invariant.5 ch f h tr n v a ∙ tests_done h f n _ v a c.loop-k.k (omega arith))
