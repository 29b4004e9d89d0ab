-- A chart that lists describe is one that a file can hold: their entries fit the types that the code gives them.
use mathlib.Core.Path.{◌≡◌}
use mathlib.Core.Option.{some, some-injective, none-ne-some}
use mathlib.Core.List.{List, [], ◌∷◌}
use Prim.Native.Nat.{ℕ, zero, suc, ◌<◌, ◌^◌}
use native.Mathlib.Omega.{arith}
use lib.ListN.{length, get_elem?}
use Rattle.lists.specs.Rising.{Rising, All}
use Rattle.model.specs.Answer.{returned}
use Rattle.model.specs.Chart.{Test, Transition, Chart}
use Rattle.model.specs.Version.{widest}
use Rattle.model.specs.Valid.{ValidTest, ValidTransition, Valid, Storable}
use Rattle.model.proofs.Versions.{storable_iff}
use Rattle.chart_lists.specs.Lists.{Lists}
use Rattle.chart_lists.specs.declared.Header.{Header}
use Rattle.list_judging.specs.FromLists.{test_from, transition_from, fields_from, chart_from}
use Rattle.list_judging.specs.Typed.{Typed}
use Rattle.list_judging.proofs.Items.{each_all}
use Rattle.list_judging.proofs.Parts.{AcceptingEach, test_item, no_state, tests_each, next_tests}
use Rattle.list_judging.proofs.TransitionOf.{accepting_of, test_of, transition_of}
use Rattle.list_judging.proofs.ChartOf.{chart_of_lem, each_accepted, each_transition, transition_count, from_known, from_fields}
use Rattle.list_judging.proofs.Starts.{members_below}

-- what holds of all entries holds of each
pub all_nth : {A : Type 0} (P : A → Type 0) (l : List A) (k : ℕ) {x : A} → All P l → get_elem? l k ≡ some x → P x
all_nth P [] k h e = absurd (none-ne-some _ e)
all_nth P (y ∷ l) zero h e = rw (← some-injective _ _ e) h.0
all_nth P (y ∷ l) (suc k) h e = all_nth P l k h.1 e

accepting_rising : (locations : ℕ) (l : List ℕ) (k lo : ℕ) (xs : List ℕ) → AcceptingEach locations l k lo xs → Rising locations lo xs
accepting_rising locations l k lo [] h = tt
accepting_rising locations l k lo (x ∷ xs) h =
    let a = accepting_of locations l k lo x h.0 in
    ((a.2, a.1), accepting_rising locations l (suc k) (suc x) xs h.1)

module _ (l : Lists) (typed : Typed l) where
  test_valid : (timers i k : ℕ) (t : Test) → test_from l timers i k ≡ returned t → ValidTest widest timers t
  test_valid timers i k t e =
      let h = test_of l timers i k t e in
      record { timer = h.timer_below; constant = all_nth (λ x. x < 256 ^ widest) l.constants k typed.constants h.constant }

  transition_valid : (locations timers i k : ℕ) (r : Transition) → transition_from l locations timers i k ≡ returned r
      → ValidTransition widest locations timers r
  transition_valid locations timers i k r e =
      let h = transition_of l locations timers i k r e in
      record {
        source = h.source_below;
        target = h.target_below;
        event = all_nth (λ x. x < 256) l.events i typed.events h.event;
        starts = rw h.starts_are (members_below timers h.word h.starts_below);
        few_tests = h.few_tests;
        tests = each_all (test_item l timers i) no_state (ValidTest widest timers) (λ k s t. test_valid timers i k t) k 0 r.tests
            (tests_each l timers i k (length r.tests) r.tests h.tests);
      }

  pub from_valid : (m : Header) (c : Chart) → fields_from m l ≡ returned c → Valid widest c
  from_valid m c e =
      let h = chart_of_lem m l c e in
      record {
        some_location = rw h.locations h.some_location;
        few_locations = omega (arith, h.locations, h.few_locations);
        initial = rw (h.locations, h.initial) h.initial_below;
        few_timers = omega (arith, h.timers, h.few_timers);
        accepting = rw h.locations (accepting_rising m.locations l.accepting 0 0 c.accepting (each_accepted m l c h));
        few_transitions = omega (arith, h.few_transitions, transition_count m l c h);
        transitions = rw (h.locations, h.timers)
            (each_all (transition_from l m.locations m.timers) next_tests (ValidTransition widest m.locations m.timers)
            (transition_valid m.locations m.timers) 0 0 c.transitions (each_transition m l c h));
      }

  -- what 17 does not refuse fits the width of its version
  pub from_storable : (m : Header) (c : Chart) → chart_from m l ≡ returned c → Storable c
  from_storable m c e =
      let h = from_fields m l c e in
      (storable_iff c).1 (record { known = from_known m l c h.0; valid = from_valid m c h.0; not_refused = h.1 })
