-- What it takes for an accepting location, a test and a transition to stand in the lists: the entries that they are made of.
use mathlib.Core.Path.{◌≡◌, refl, sym, ap, ◌∙◌, subst}
use mathlib.Core.Bool.{true}
use mathlib.Core.Option.{some}
use mathlib.Core.List.{List}
use Prim.Native.Nat.{ℕ, ◌≤◌, ◌<◌}
use lib.Dec.{leb}
use lib.ListN.{length, get_elem?}
use borrow.Author.Tests.{le-leb, leb-true}
use Rattle.timer_set.specs.Members.{members, all_below}
use Rattle.comparison.specs.Comparison.{comparison_of, code_of}
use Rattle.comparison.proofs.Comparisons.{comparison_code, code_comparison}
use Rattle.model.specs.Answer.{returned, nowhere}
use Rattle.model.specs.Chart.{Test, Transition}
use Rattle.file_format.proofs.Answers.{then_result, unless_result}
use Rattle.chart_lists.specs.Lists.{Lists}
use Rattle.list_judging.specs.FromLists.{or_refused, entry_at, entry_below, test_from, tests_from, transition_from}
use Rattle.list_judging.proofs.ListEntries.{or_refused_some, entry_some, some_entry, below_some, some_below}
use Rattle.list_judging.proofs.Parts.{accepting_item, tests_length}

-- ---- an accepting location

module _ (locations : ℕ) (l : List ℕ) (k lo x : ℕ) where
  pub accepting_of : accepting_item locations l k lo ≡ returned x → (get_elem? l k ≡ some x) × (x < locations) × (lo ≤ x)
  unfolding accepting_item
  accepting_of e =
      let a = then_result (entry_below l k locations 5 nowhere) _ e in
      let b = unless_result (leb lo a.0) 7 nowhere (returned a.0) a.2 in
      let q : a.0 ≡ x = cc in
      let d = below_some l k locations 5 nowhere (a.1 ∙ ap returned q) in
      (d.0, d.1, subst (λ (y : ℕ). lo ≤ y) q (leb-true lo a.0 b.0))

  pub of_accepting : get_elem? l k ≡ some x → x < locations → lo ≤ x → accepting_item locations l k lo ≡ returned x
  unfolding accepting_item
  of_accepting e h m = rw (some_below l k locations 5 nowhere e h, le-leb lo x m)

-- ---- a test

pub record TestOf (l : Lists) (timers k : ℕ) (t : Test) : Type 0 where
  pub timer : get_elem? l.timers k ≡ some t.timer
  pub timer_below : t.timer < timers
  pub code : get_elem? l.codes k ≡ some (code_of t.comparison)
  pub constant : get_elem? l.constants k ≡ some t.constant

module _ (l : Lists) (timers i k : ℕ) (t : Test) where
  pub test_of : test_from l timers i k ≡ returned t → TestOf l timers k t
  unfolding test_from
  test_of e =
      let a = then_result (entry_below l.timers k timers 6 i) _ e in
      let b = then_result (entry_at l.codes k) _ a.2 in
      let d = then_result (or_refused 8 i (comparison_of b.0)) _ b.2 in
      let v = then_result (entry_at l.constants k) _ d.2 in
      let q : record { timer = a.0; comparison = d.0; constant = v.0 } ≡ t = cc in
      let j = below_some l.timers k timers 6 i a.1 in
      let x = code_comparison b.0 d.0 (or_refused_some 8 i (comparison_of b.0) d.1) in
      subst (λ (t : Test). TestOf l timers k t) q (record {
        timer = j.0;
        timer_below = j.1;
        code = entry_some l.codes k b.1 ∙ ap some x;
        constant = entry_some l.constants k v.1;
      })

  pub of_test : TestOf l timers k t → test_from l timers i k ≡ returned t
  unfolding test_from
  of_test h =
      rw (
        some_below l.timers k timers 6 i h.timer h.timer_below,
        some_entry l.codes k h.code,
        comparison_code t.comparison,
        some_entry l.constants k h.constant,
      )

-- ---- a transition

pub record TransitionOf (l : Lists) (locations timers i k : ℕ) (r : Transition) : Type 0 where
  pub source : get_elem? l.sources i ≡ some r.source
  pub source_below : r.source < locations
  pub target : get_elem? l.targets i ≡ some r.target
  pub target_below : r.target < locations
  pub event : get_elem? l.events i ≡ some r.event
  pub word : ℕ
  pub starts : get_elem? l.starts i ≡ some word
  pub starts_are : r.starts ≡ members word
  pub starts_below : all_below timers word ≡ true
  pub count : get_elem? l.test_counts i ≡ some (length r.tests)
  pub few_tests : length r.tests ≤ 8
  pub tests : tests_from l timers i k (length r.tests) ≡ returned r.tests

module _ (l : Lists) (locations timers i k : ℕ) (r : Transition) where
  pub transition_of : transition_from l locations timers i k ≡ returned r → TransitionOf l locations timers i k r
  unfolding transition_from
  transition_of e =
      let p = then_result (entry_below l.sources i locations 5 i) _ e in
      let q = then_result (entry_below l.targets i locations 5 i) _ p.2 in
      let v = then_result (entry_at l.events i) _ q.2 in
      let w = then_result (entry_at l.starts i) _ v.2 in
      let b = unless_result (all_below timers w.0) 6 i _ w.2 in
      let g = then_result (entry_at l.test_counts i) _ b.1 in
      let f = unless_result (leb g.0 8) 4 i _ g.2 in
      let t = then_result (tests_from l timers i k g.0) _ f.1 in
      let same : record { source = p.0; target = q.0; event = v.0; starts = members w.0; tests = t.0 } ≡ r = cc in
      let n = tests_length l timers i k g.0 t.0 t.1 in
      let s = below_some l.sources i locations 5 i p.1 in
      let d = below_some l.targets i locations 5 i q.1 in
      subst (λ (r : Transition). TransitionOf l locations timers i k r) same (record {
        source = s.0;
        source_below = s.1;
        target = d.0;
        target_below = d.1;
        event = entry_some l.events i v.1;
        word = w.0;
        starts = entry_some l.starts i w.1;
        starts_are = refl;
        starts_below = b.0;
        count = entry_some l.test_counts i g.1 ∙ ap some (sym n);
        few_tests = rw n (leb-true g.0 8 f.0);
        tests = rw n t.1;
      })

  pub of_transition : TransitionOf l locations timers i k r → transition_from l locations timers i k ≡ returned r
  unfolding transition_from
  of_transition h =
      rw (
        some_below l.sources i locations 5 i h.source h.source_below,
        some_below l.targets i locations 5 i h.target h.target_below,
        some_entry l.events i h.event,
        some_entry l.starts i h.starts,
        h.starts_below,
        some_entry l.test_counts i h.count,
        le-leb (length r.tests) 8 h.few_tests,
        h.tests,
        ← h.starts_are,
      )
