-- Lists that hold a chart: their fronts are the chart's own lists, and what the code asks of them holds.
use mathlib.Core.Path.{◌≡◌, refl, sym, ap, ◌∙◌}
use mathlib.Core.List.{List, [], ◌∷◌, ◌++◌}
use Prim.Native.Nat.{ℕ, ◌≤◌}
use native.Mathlib.Omega.{arith}
use lib.ListN.{length, take, drop, length-append, take-append-drop}
use Rattle.lists.specs.Lists.{sum_of}
use Rattle.model.specs.Answer.{Answer}
use Rattle.model.specs.Chart.{Transition, Chart}
use Rattle.model.specs.Live.{tested_sets}
use Rattle.chart_lists.specs.declared.Header.{Header}
use Rattle.chart_lists.specs.Header.{header_of}
use Rattle.chart_lists.specs.Lists.{Lists, lists_of, all_tests, put, test_counts_of}
use Rattle.chart_lists.specs.Begins.{Begins}
use Rattle.chart_lists.specs.Holds.{Holds}
use Rattle.chart_lists.proofs.Begins.{begins_put, begins_room, begins_get_d}
use Rattle.chart_lists.proofs.Partly.{holds_transitions}
use Rattle.chart_lists.proofs.Tests.{timers_below}
use Rattle.chart_lists.proofs.Fronts.{locations_are, initial_is, transitions_are, each_front, each_part}
use Rattle.chart_lists.proofs.Holds.{sources_each, targets_each, starts_each, test_counts_each, timers_each}
use Rattle.flow.proofs.ChartFlows.{tested_each}
use Rattle.forward.specs.Forward.{SafeForward}
use Rattle.forward.proofs.ChartSets.{own_safe}
use Rattle.judgement.specs.Judging.{header_judged}
use Rattle.judgement.specs.Tested.{sets_in, TimersFor}
use Rattle.judgement.specs.Places.{judged_lists}
use Rattle.judgement.specs.Charts.{HoldsTransitions}
use Rattle.judgement.proofs.Tested.{sets_are}
use Rattle.judgement.proofs.Judging.{judged_are}

sum_tests : (rs : List Transition) → sum_of (test_counts_of rs) ≡ length (all_tests rs)
unfolding sum_of all_tests
sum_tests [] = refl
sum_tests (r ∷ rs) = rw (sum_tests rs, length-append)

-- ---- what the judgement is lent of the lists

pub holds_judged : {c : Chart} {l : Lists} → Holds c l → HoldsTransitions c l.sources l.targets l.starts l.test_counts l.timers
holds_judged h = holds_transitions h h.sources h.targets h.starts h.test_counts h.timers

module _ {c : Chart} {m : Header} (e : m ≡ header_of c) {sources targets starts test_counts timers : List ℕ}
    (h : HoldsTransitions c sources targets starts test_counts timers) where
  count_is : m.transitions ≡ length c.transitions
  count_is = transitions_are c e

  pub few : m.transitions ≤ 512
  few = omega (arith, count_is, h.valid.few_transitions)

  -- the front of a list that is lent
  abbrev front : List ℕ → List ℕ
  front l = take m.transitions l

  module _ {xs l : List ℕ} (each : length xs ≡ length c.transitions) (b : Begins xs l) where
    of_all : take m.transitions l ≡ xs
    of_all = each_front c e each b

    pub lent_part : m.transitions ≡ length (take m.transitions l)
    lent_part = sym (each_part c e each b)

    pub lent_room : m.transitions ≤ length l
    lent_room = omega (arith, count_is, each, begins_room b)

  pub sources_part : m.transitions ≡ length (take m.transitions sources)
  sources_part = lent_part (sources_each c) h.sources

  pub targets_part : m.transitions ≡ length (take m.transitions targets)
  targets_part = lent_part (targets_each c) h.targets

  pub starts_part : m.transitions ≡ length (take m.transitions starts)
  starts_part = lent_part (starts_each c) h.starts

  pub test_counts_part : m.transitions ≡ length (take m.transitions test_counts)
  test_counts_part = lent_part (test_counts_each c) h.test_counts

  -- ---- the tested sets

  counts_are : take m.transitions test_counts ≡ (lists_of c).test_counts
  counts_are = of_all (test_counts_each c) h.test_counts

  sum_is : sum_of (take m.transitions test_counts) ≡ length (lists_of c).timers
  unfolding lists_of
  sum_is = ap sum_of counts_are ∙ sum_tests c.transitions ∙ sym (timers_each c)

  pub timers_for : TimersFor (take m.transitions test_counts) timers
  unfolding lists_of
  timers_for = record {
    enough = omega (arith, sum_is, begins_room h.timers);
    small = λ i l. rw (begins_get_d h.timers i 0 (omega (arith, sum_is))) (timers_below h.valid i);
  }

  sets_in_lem : sets_in (take m.transitions test_counts) timers ≡ tested_sets c
  unfolding lists_of tested_sets
  sets_in_lem =
      let k = length (lists_of c).timers in
      let z : (lists_of c).timers ++ drop k timers ≡ timers =
      ap (λ (y : List ℕ). y ++ drop k timers) (sym h.timers.is) ∙ take-append-drop k timers in
      rw (counts_are, ← z) (sets_are c.transitions (drop k timers))

  module _ (before : List ℕ) {tested : List ℕ} (t : tested ≡ put (sets_in (take m.transitions test_counts) timers) before) where
    pub tested_begins : Begins (tested_sets c) tested
    tested_begins = begins_put (tested_sets c) before (rw sets_in_lem at t)

    pub tested_room : m.transitions ≤ length tested
    tested_room = lent_room (tested_each c) tested_begins

    pub tested_part : m.transitions ≡ length (take m.transitions tested)
    tested_part = lent_part (tested_each c) tested_begins

    -- ---- 9 and 10

    pub lent_safe : SafeForward m.initial m.locations (front sources) (front targets) (front starts)
    lent_safe =
        let i = initial_is c e in
        let l = locations_are c e in
        let s = of_all (sources_each c) h.sources in
        let t = of_all (targets_each c) h.targets in
        rw (i, l, s, t, of_all (starts_each c) h.starts) (own_safe h.valid)

    pub same_parts : length (take m.transitions tested) ≡ length (take m.transitions sources)
    same_parts = sym tested_part ∙ sources_part

    pub judged_lent : {a : Answer Header}
        → a ≡ judged_lists m (front sources) (front targets) (front starts) (front tested) → a ≡ header_judged c
    judged_lent q =
        let s = of_all (sources_each c) h.sources in
        let t = of_all (targets_each c) h.targets in
        let w = of_all (starts_each c) h.starts in
        (rw (s, t, w, of_all (tested_each c) tested_begins, e) at q) ∙ judged_are h.valid
