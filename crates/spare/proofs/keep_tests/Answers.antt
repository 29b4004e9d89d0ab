-- `keep_tests` meets its contract: the tests of the first i transitions are gone over, for whichever chart the lists are of; what a turn may read
-- follows from the one that is given.
use mathlib.Core.Path.{sym, ◌∙◌}
use mathlib.Core.List.{List}
use Prim.Native.Nat.{ℕ, ◌+◌, ◌≤◌, ◌<◌}
use native.Mathlib.Omega.{arith}
use lib.ListN.{length, get_or}
use Rattle.model.specs.Chart.{Chart}
use Rattle.chart_lists.specs.Lists.{lists_of}
use Rattle.chart_lists.specs.Holds.{Holds}
use Rattle.spare.specs.Cleared.{transitions_of}
use Rattle.chart_lists.proofs.Holds.{test_counts_each, timers_each, codes_each, constants_each}
use Rattle.chart_lists.proofs.InTurn.{nth_transition, test_count_at}
use Rattle.spare.proofs.Turns.{entry_there, source_there, set_there, leaves_is}
use Rattle.spare.proofs.Clearing.{TestsTo, tests_none, tests_room, tests_spare, tests_reached, tests_all}
use Rattle.spare.proofs.keep_tests.Goals as goal
use Rattle.spare.proofs.keep_tests.Goals.{then-leaves_reached, else-leaves_reached}

-- its tests, which are moved up or dropped
record Row (timers codes constants : ℕ) (from to count : ℕ) : Type 0 where
  pub up : to ≤ from
  pub in_timers : from + count ≤ timers
  pub in_codes : from + count ≤ codes
  pub in_constants : from + count ≤ constants

-- those of transition i, where the tests of the ones before it are gone over
row : {c : Chart} {sources counts timers₀ codes₀ constants₀ timers codes constants : List ℕ} {from to i : ℕ} → i < length c.transitions
    → Holds c (transitions_of c sources (lists_of c).targets (lists_of c).starts counts timers₀ codes₀ constants₀)
    → TestsTo c timers₀ codes₀ constants₀ timers codes constants from to i
    → Row (length timers₀) (length codes₀) (length constants₀) from to (get_or counts i 0)
row {c} {i = i} below h x =
    let n = (nth_transition c i below).1 in
    let its = test_count_at n h.test_counts in
    record {
      up = x.up;
      in_timers = tests_room x n its (timers_each c) h.timers;
      in_codes = tests_room x n its (codes_each c) h.codes;
      in_constants = tests_room x n its (constants_each c) h.constants;
    }

pub loop-i-init : goal.loop-i-init
loop-i-init c = λ chart e b h. tests_none chart _ _ _

pub bounds-test_counts-i : goal.bounds-test_counts-i
bounds-test_counts-i c =
    let q = c.requires in
    let below : c.loop-i.i < length q.0.transitions = omega arith in
    entry_there q.0 (test_counts_each q.0) q.3.test_counts below

pub leaves_reached-requires : goal.leaves_reached-requires
leaves_reached-requires c =
    let q = c.requires in
    let below : c.loop-i.i < length q.0.transitions = omega arith in
    (source_there q.3.valid q.3.sources q.2 below, set_there q.3.valid q.3.sources q.2 below)

pub move_tests-requires : goal.move_tests-requires
move_tests-requires c =
    let q = c.requires in
    let r = row (omega arith) q.3 (c.loop-i.invariant q.0 q.1 q.2 q.3) in (
      r.up,
      omega (arith, r.in_timers, c.loop-i.auto.timers),
      omega (arith, r.in_codes, c.loop-i.auto.codes),
      omega (arith, r.in_constants, c.loop-i.auto.constants),
    )

pub overflow_add-to : goal.overflow_add-to
overflow_add-to c = let q = c.requires in let r = row (omega arith) q.3 (c.loop-i.invariant q.0 q.1 q.2 q.3) in omega (arith, r.up, r.in_timers)

pub overflow_add-from : goal.overflow_add-from
overflow_add-from c = let q = c.requires in omega (arith, (row (omega arith) q.3 (c.loop-i.invariant q.0 q.1 q.2 q.3)).in_timers)

pub loop-i-preserved : goal.loop-i-preserved
loop-i-preserved c = λ chart e b h.
    let v = c.loop-i.invariant chart e b h in
    let n = (nth_transition chart c.loop-i.i (omega arith)).1 in
    let its = test_count_at n h.test_counts in
    elim c.if-leaves_reached.branch [
      | then-leaves_reached w ↦ rw (w.timers-is, w.codes-is, w.constants-is, w.to-is) (tests_reached v n its
          (leaves_is h.valid h.sources b n (sym w.if-leaves_reached.true ∙ c.leaves_reached.ensures)) h.timers h.codes
          h.constants w.move_tests.ensures.timers w.move_tests.ensures.codes w.move_tests.ensures.constants)
      | else-leaves_reached w ↦ rw (w.timers-is, w.codes-is, w.constants-is, w.to-is) (tests_spare v n its
          (leaves_is h.valid h.sources b n (sym w.if-leaves_reached.false ∙ c.leaves_reached.ensures)))
    ]

pub returns : goal.returns
returns c = λ chart e b h. tests_all (c.loop-i.invariant chart e b h) (omega arith)
