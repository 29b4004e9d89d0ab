-- The sets of timers that a transition starts and tests, by members, and flows with an edge for each transition.
use mathlib.Core.Path.{◌≡◌, refl, sym, ap, ◌∙◌, subst}
use mathlib.Core.Bool.{Bool, true, ◌||◌}
use mathlib.Core.Option.{some}
use mathlib.Core.List.{List, [], ◌∷◌, map}
use Prim.Native.Nat.{ℕ, ◌<◌, ◌^◌}
use native.Mathlib.Omega.{arith}
use lib.Dec.{eqb}
use lib.ListN.{get_elem?}
use Rattle.timer_set.specs.Members.{member}
use Rattle.timer_set.proofs.Members.{member_set_of, set_of_lt}
use Rattle.lists.specs.Lists.{memb, any_of}
use Rattle.lists.proofs.Membership.{nth_map, nth_unmap}
use Rattle.model.specs.Chart.{Test, Transition, Chart, Nth, tested}
use Rattle.model.specs.Valid.{Valid}
use Rattle.model.specs.Flow.{Edge, Flow}
use Rattle.model.specs.Comes.{EdgeInto, Shaped}
use Rattle.model.specs.Live.{starts_set, tests_set}
use Rattle.model.proofs.Transitions.{tested_below}

memb_timers : (j : ℕ) (ts : List Test) → memb j (map (λ (t : Test). t.timer) ts) ≡ tested j ts
unfolding memb tested any_of
memb_timers j [] = refl
memb_timers j (t ∷ ts) = ap (λ (b : Bool). eqb j t.timer || b) (memb_timers j ts)

module _ (r : Transition) where
  pub member_starts : (j : ℕ) → member (starts_set r) j ≡ memb j r.starts
  unfolding starts_set
  member_starts j = member_set_of r.starts j

  pub member_tests : (j : ℕ) → member (tests_set r) j ≡ tested j r.tests
  unfolding tests_set
  member_tests j = member_set_of (map (λ (t : Test). t.timer) r.tests) j ∙ memb_timers j r.tests

module _ {W : ℕ} {c : Chart} (valid : Valid W c) where
  pub tests_word : {i : ℕ} {r : Transition} → Nth c i r → tests_set r < 2 ^ 64
  unfolding tests_set
  tests_word {r = r} n = set_of_lt 64 (map (λ (t : Test). t.timer) r.tests) few
    where
      few : (j : ℕ) → memb j (map (λ (t : Test). t.timer) r.tests) ≡ true → j < 64
      few j h = omega (arith, valid.few_timers, tested_below valid j n (sym (memb_timers j r.tests) ∙ h))

-- ---- flows with an edge for each transition

-- e is the edge that mk makes of transition number i
pub record EdgeOf (c : Chart) (mk : Transition → Edge) (i : ℕ) (e : Edge) : Type 0 where
  pub transition : Transition
  pub is_nth : Nth c i transition
  pub is_edge : mk transition ≡ e

pub edge_of : (c : Chart) (mk : Transition → Edge) (i : ℕ) {e : Edge} → get_elem? (map mk c.transitions) i ≡ some e → EdgeOf c mk i e
edge_of c mk i n = let x = nth_unmap mk c.transitions i n in record { transition = x.0; is_nth = record { there = x.1 }; is_edge = x.2 }

module _ (c : Chart) (own : ℕ → ℕ) (mk : Transition → Edge) where
  -- the flow of the edges that mk makes
  abbrev pub edge_flow : Flow
  edge_flow = record { locations = c.locations; own = own; edges = map mk c.transitions }

  pub edge_to : {i : ℕ} {r : Transition} → Nth c i r → EdgeInto edge_flow (mk r).into (mk r)
  edge_to {i} n = record { number = i; is_nth = nth_map mk c.transitions i n.there; leads = refl }

  -- an edge's ends are locations, and its gain a word of 64
  abbrev InRange : Edge → Type 0
  InRange e = (e.into < c.locations) × (e.from < c.locations) × (e.gain < 2 ^ 64)

  pub edges_shaped : ((q : ℕ) → own q < 2 ^ 64) → ((i : ℕ) (r : Transition) → Nth c i r → InRange (mk r)) → Shaped edge_flow
  edges_shaped word inside = record {
    into_below = λ i {e} n. (within i n).0;
    from_below = λ i {e} n. (within i n).1;
    own_word = word;
    gain_word = λ i {e} n. (within i n).2;
  }
    where
      within : (i : ℕ) {e : Edge} → get_elem? (map mk c.transitions) i ≡ some e → InRange e
      within i n = let x = edge_of c mk i n in subst InRange x.is_edge (inside i x.transition x.is_nth)
