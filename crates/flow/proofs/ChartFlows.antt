-- The flows of a chart are those of its lists, one edge for each transition, and these lists are safe.
use mathlib.Core.Path.{◌≡◌, refl, sym, ap, ◌∙◌, fun_ext}
use mathlib.Core.Bool.{true, false}
use mathlib.Core.List.{List, [], ◌∷◌, map}
use Prim.Native.Nat.{ℕ}
use native.Mathlib.Decide.{ℕ_discrete}
use native.Mathlib.Omega.{arith}
use lib.Dec.{eqb}
use lib.ListN.{length, get_or, set, replicate, length-map, length-set, length-replicate}
use lib.Seq.{get_or-set_same, get_or-set_other}
use borrow.Author.Tests.{eq-eqb, ne_eqb}
use Rattle.timer_set.specs.Members.{every_timer}
use Rattle.lists.proofs.Zeros.{get_d_zeros}
use Rattle.lists.proofs.Nth.{get_d_map, up_to_map}
use Rattle.model.specs.Chart.{Chart}
use Rattle.model.specs.Valid.{Valid}
use Rattle.model.specs.Flow.{Edge}
use Rattle.model.specs.Live.{starts_set, tests_set, tested_sets, at_initial, live_flow, unstarted_flow, reached_flow}
use Rattle.chart_lists.specs.Lists.{lists_of}
use Rattle.chart_lists.proofs.Holds.{sources_each, targets_each, starts_each}
use Rattle.chart_lists.proofs.Locations.{sources_below, targets_below}
use Rattle.flow.specs.Edges.{edge_at, flow_of, SafeEdges}

-- the sets of the unstarted and the reached flow before the first round: w at the initial location, nothing elsewhere
abbrev pub initial_sets : Chart → ℕ → List ℕ
initial_sets c w = set (replicate c.locations 0) c.initial w

-- nothing for each transition
abbrev pub none_each : Chart → List ℕ
none_each c = replicate (length c.transitions) 0

pub tested_each : (c : Chart) → length (tested_sets c) ≡ length c.transitions
unfolding tested_sets
tested_each c = length-map c.transitions tests_set

-- ---- the flow of lists made of the elements of one list

module _ {A : Type 0} where
  nothing : (l : List A) → ◌≡◌ {A = List ℕ} (replicate (length l) 0) (map (λ (a : A). 0) l)
  nothing [] = refl
  nothing (x ∷ l) = ap (λ (t : List ℕ). 0 ∷ t) (nothing l)

  module _ (into from cut gain : A → ℕ) (l : List A) where
    abbrev edge : A → Edge
    edge a = record { into = into a; from = from a; cut = cut a; gain = gain a }

    mapped_flow : (own : List ℕ) (n : ℕ) (start : ℕ → ℕ) → length own ≡ n → ((q : ℕ) → get_or own q 0 ≡ start q)
        → flow_of (map into l) (map from l) (map cut l) (map gain l) own ≡ record { locations = n; own = start; edges = map edge l }
    unfolding flow_of edge_at
    mapped_flow own n start e p = λ j. record { locations = e j; own = fun_ext p j; edges = edges j }
      where
        edges : (flow_of (map into l) (map from l) (map cut l) (map gain l) own).edges ≡ map edge l
        edges = up_to_map (record { into = 0; from = 0; cut = 0; gain = 0 }) _ edge l _ (length-map l into) (λ i a e.
            let here : (f : A → ℕ) → get_or (map f l) i 0 ≡ f a = λ f. get_d_map f l i e in
            λ j. record { into = here into j; from = here from j; cut = here cut j; gain = here gain j })

-- ---- the flows of a chart

module _ {W : ℕ} {c : Chart} (valid : Valid W c) where
  length_initial : (w : ℕ) → length (initial_sets c w) ≡ c.locations
  length_initial w = length-set (replicate c.locations 0) c.initial w ∙ length-replicate {A = ℕ} c.locations 0

  get_d_initial : (w q : ℕ) → get_or (initial_sets c w) q 0 ≡ at_initial c w q
  unfolding at_initial
  get_d_initial w q = go (ℕ_discrete q c.initial)
    where
      empty : List ℕ
      empty = replicate c.locations 0

      go : Dec (q ≡ c.initial) → get_or (initial_sets c w) q 0 ≡ elim (eqb q c.initial) [ true ↦ w | false ↦ 0 ]
      go (yes e) =
          rw (eq-eqb q c.initial e, e)
          (get_or-set_same empty c.initial w 0 (omega (arith, valid.initial, length-replicate {A = ℕ} c.locations 0)))
      go (no ne) = rw (ne_eqb q c.initial ne) (get_or-set_other empty c.initial q w 0 ne ∙ get_d_zeros c.locations q)

  pub live_flow_lem : flow_of (lists_of c).sources (lists_of c).targets (lists_of c).starts (tested_sets c) (replicate c.locations 0) ≡ live_flow c
  unfolding lists_of tested_sets live_flow
  live_flow_lem = mapped_flow _ _ starts_set tests_set c.transitions (replicate c.locations 0) c.locations (λ q. 0)
      (length-replicate {A = ℕ} c.locations 0) (get_d_zeros c.locations)

  pub unstarted_flow_lem : flow_of (lists_of c).targets (lists_of c).sources (lists_of c).starts (none_each c) (initial_sets c every_timer)
      ≡ unstarted_flow c
  unfolding lists_of unstarted_flow
  unstarted_flow_lem = rw (nothing c.transitions)
      (mapped_flow _ _ starts_set (λ r. 0) c.transitions (initial_sets c every_timer) c.locations (at_initial c every_timer)
      (length_initial every_timer) (get_d_initial every_timer))

  pub reached_flow_lem : flow_of (lists_of c).targets (lists_of c).sources (none_each c) (none_each c) (initial_sets c every_timer) ≡ reached_flow c
  unfolding lists_of reached_flow
  reached_flow_lem = rw (nothing c.transitions)
      (mapped_flow _ _ (λ r. 0) (λ r. 0) c.transitions (initial_sets c every_timer) c.locations (at_initial c every_timer)
      (length_initial every_timer) (get_d_initial every_timer))

  -- ---- their safety: each transition leads from a location to a location

  pub live_safe : SafeEdges (lists_of c).sources (lists_of c).targets (lists_of c).starts (tested_sets c) (replicate c.locations 0)
  live_safe = let own = length-replicate {A = ℕ} c.locations 0 in record {
    froms = targets_each c ∙ sym (sources_each c);
    cuts = starts_each c ∙ sym (sources_each c);
    gains = tested_each c ∙ sym (sources_each c);
    edges = omega (arith, valid.few_transitions, sources_each c);
    locations = omega (arith, valid.few_locations, own);
    into_below = λ i h. rw own (sources_below valid i (omega (arith, sources_each c)));
    from_below = λ i h. rw own (targets_below valid i (omega (arith, sources_each c)));
  }

  -- forwards, with what is cut for each transition
  module _ {cut : List ℕ} (cuts : length cut ≡ length c.transitions) where
    pub forward_safe : SafeEdges (lists_of c).targets (lists_of c).sources cut (none_each c) (initial_sets c every_timer)
    forward_safe = let own = length_initial every_timer in record {
      froms = sources_each c ∙ sym (targets_each c);
      cuts = cuts ∙ sym (targets_each c);
      gains = length-replicate {A = ℕ} (length c.transitions) 0 ∙ sym (targets_each c);
      edges = omega (arith, valid.few_transitions, targets_each c);
      locations = omega (arith, valid.few_locations, own);
      into_below = λ i h. rw own (targets_below valid i (omega (arith, targets_each c)));
      from_below = λ i h. rw own (sources_below valid i (omega (arith, targets_each c)));
    }

  pub unstarted_safe : SafeEdges (lists_of c).targets (lists_of c).sources (lists_of c).starts (none_each c) (initial_sets c every_timer)
  unstarted_safe = forward_safe (starts_each c)

  pub reached_safe : SafeEdges (lists_of c).targets (lists_of c).sources (none_each c) (none_each c) (initial_sets c every_timer)
  reached_safe = forward_safe (length-replicate {A = ℕ} (length c.transitions) 0)
