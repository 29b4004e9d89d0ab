-- What it takes for a chart to stand in the lists: its header, and its accepting locations and transitions.
use mathlib.Core.Path.{◌≡◌, refl, sym, ap, ◌∙◌, subst}
use mathlib.Core.Bool.{true, false, not}
use Rattle.lists.proofs.Bools.{not-true}
use Prim.Native.Nat.{◌≤◌, ◌<◌}
use lib.Dec.{leb, ltb}
use lib.ListN.{length}
use borrow.Author.Tests.{lt-ltb, ltb-true, le-leb, leb-true}
use Rattle.model.specs.Answer.{returned, nowhere}
use Rattle.model.specs.Chart.{Chart}
use Rattle.model.specs.Version.{known_version, large_in_version1}
use Rattle.file_format.proofs.Answers.{then_result, unless_result}
use Rattle.chart_lists.specs.Lists.{Lists}
use Rattle.chart_lists.specs.declared.Header.{Header}
use Rattle.list_judging.specs.FromLists.{accepting_from, transitions_from, fields_from, chart_from}
use Rattle.list_judging.proofs.Parts.{AcceptingEach, accepting_each, accepting_length}
use Rattle.list_judging.proofs.Parts.{TransitionsEach, transitions_each, transitions_length}

pub record ChartOf (m : Header) (l : Lists) (c : Chart) : Type 0 where
  pub version : c.version ≡ m.version
  pub locations : c.locations ≡ m.locations
  pub initial : c.initial ≡ m.initial
  pub timers : c.timers ≡ m.timers
  pub known : known_version m.version ≡ true
  pub few_locations : m.locations < 257
  pub some_location : 1 ≤ m.locations
  pub initial_below : m.initial < m.locations
  pub few_timers : m.timers < 65
  pub accepting : accepting_from m.locations l.accepting 0 0 m.accepting ≡ returned c.accepting
  pub few_transitions : m.transitions < 513
  pub transitions : transitions_from l m.locations m.timers 0 0 m.transitions ≡ returned c.transitions

module _ (m : Header) (l : Lists) (c : Chart) where
  pub chart_of_lem : fields_from m l ≡ returned c → ChartOf m l c
  unfolding fields_from
  chart_of_lem e =
      let v = unless_result (known_version m.version) 2 nowhere _ e in
      let a = unless_result (ltb m.locations 257) 4 nowhere _ v.1 in
      let b = unless_result (leb 1 m.locations) 4 nowhere _ a.1 in
      let d = unless_result (ltb m.initial m.locations) 5 nowhere _ b.1 in
      let f = unless_result (ltb m.timers 65) 4 nowhere _ d.1 in
      let x = then_result (accepting_from m.locations l.accepting 0 0 m.accepting) _ f.1 in
      let g = unless_result (ltb m.transitions 513) 4 nowhere _ x.2 in
      let y = then_result (transitions_from l m.locations m.timers 0 0 m.transitions) _ g.1 in
      let same : record {
        version = m.version;
        locations = m.locations;
        initial = m.initial;
        timers = m.timers;
        accepting = x.0;
        transitions = y.0;
      } ≡ c = cc in
      subst (λ (c : Chart). ChartOf m l c) same (record {
        version = refl;
        locations = refl;
        initial = refl;
        timers = refl;
        known = v.0;
        few_locations = ltb-true m.locations 257 a.0;
        some_location = leb-true 1 m.locations b.0;
        initial_below = ltb-true m.initial m.locations d.0;
        few_timers = ltb-true m.timers 65 f.0;
        accepting = x.1;
        few_transitions = ltb-true m.transitions 513 g.0;
        transitions = y.1;
      })

  pub of_chart : ChartOf m l c → fields_from m l ≡ returned c
  unfolding fields_from
  of_chart h =
      rw (
        h.known,
        lt-ltb m.locations 257 h.few_locations,
        le-leb 1 m.locations h.some_location,
        lt-ltb m.initial m.locations h.initial_below,
        lt-ltb m.timers 65 h.few_timers,
        h.accepting,
        lt-ltb m.transitions 513 h.few_transitions,
        h.transitions,
        ← h.version,
        ← h.locations,
        ← h.initial,
        ← h.timers,
      )

  module _ (h : ChartOf m l c) where
    pub each_accepted : AcceptingEach m.locations l.accepting 0 0 c.accepting
    each_accepted = accepting_each m.locations l.accepting 0 0 m.accepting c.accepting h.accepting

    pub accepted_length : length c.accepting ≡ m.accepting
    accepted_length = accepting_length m.locations l.accepting 0 0 m.accepting c.accepting h.accepting

    pub each_transition : TransitionsEach l m.locations m.timers 0 0 c.transitions
    each_transition = transitions_each l m.locations m.timers 0 0 m.transitions c.transitions h.transitions

    pub transition_count : length c.transitions ≡ m.transitions
    transition_count = transitions_length l m.locations m.timers 0 0 m.transitions c.transitions h.transitions

  pub from_known : fields_from m l ≡ returned c → known_version c.version ≡ true
  from_known e = let h = chart_of_lem e in subst (λ v. known_version v ≡ true) (sym h.version) h.known

  -- 17 is judged of the chart that the fields give
  pub from_fields : chart_from m l ≡ returned c → (fields_from m l ≡ returned c) × (large_in_version1 c ≡ false)
  unfolding chart_from
  from_fields e =
      let a = then_result (fields_from m l) _ e in
      let b = unless_result (not (large_in_version1 a.0)) 17 nowhere (returned a.0) a.2 in
      let q : a.0 ≡ c = cc in
      (a.1 ∙ ap returned q, subst (λ (c : Chart). large_in_version1 c ≡ false) q (not-true (large_in_version1 a.0) b.0))

  pub fields_from_lem : fields_from m l ≡ returned c → large_in_version1 c ≡ false → chart_from m l ≡ returned c
  unfolding chart_from
  fields_from_lem e s = rw (e, s)
