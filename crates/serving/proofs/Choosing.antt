-- Which transition is taken for an event, by lists that hold the chart: one transition, and all of them in turn. Each of the three conditions is read
-- off the lists.
use mathlib.Core.Path.{◌≡◌, refl, sym, ◌∙◌}
use mathlib.Core.Bool.{Bool, true, false, and-false}
use mathlib.Core.Option.{some}
use Prim.Native.Nat.{ℕ, ◌+◌, ◌-◌, ◌≤◌, ◌<◌}
use native.Mathlib.Omega.{arith}
use lib.Dec.{ltb, eqb}
use lib.ListN.{length, get_or, get_elem?}
use borrow.Author.Count.{below_more}
use borrow.Author.Tests.{eq-eqb, ne_eqb, lt-ltb, le-ltb, ltb-false}
use Rattle.std.specs.Prelude.{Some, None}
use Rattle.lists.proofs.Membership.{first_le, first_is}
use Rattle.lists.proofs.Nth.{below_nth}
use Rattle.model.specs.Chart.{Transition, Chart, Nth}
use Rattle.model.specs.Run.{State, grown, enabled}
use Rattle.chart_lists.specs.Lists.{Lists, lists_of}
use Rattle.chart_lists.specs.Holds.{Holds}
use Rattle.chart_lists.proofs.Begins.{begins_room}
use Rattle.chart_lists.proofs.Holds.{events_each}
use Rattle.chart_lists.proofs.InTurn.{source_at, event_at}
use Rattle.controller_model.specs.Serving.{can_take, lowest_to_take}
use Rattle.serving.specs.Served.{found_below}

-- ---- one transition

module _ {c : Chart} {l : Lists} (h : Holds c l) {i : ℕ} {r : Transition} (n : Nth c i r) where
  within : i < length (lists_of c).events
  within = rw (events_each c) (below_nth c.transitions i n.there)

  pub event_within : i < length l.events
  event_within = omega (arith, within, begins_room h.events)

  module _ (x : State) (e t : ℕ) {q : ℕ} (at : q ≡ x.location) where
    pub other_source : (get_or l.sources i 0 ≡ q → ⊥) → false ≡ can_take c x e t r
    unfolding can_take
    other_source d = rw (ne_eqb r.source x.location (λ p. d (source_at n h.sources ∙ p ∙ sym at))) refl

    pub other_event : (get_or l.events i 0 ≡ e → ⊥) → false ≡ can_take c x e t r
    unfolding can_take
    other_event d = rw (ne_eqb r.event e (λ p. d (event_at n h.events ∙ p))) (sym (and-false (eqb r.source x.location)))

    pub tests_decide : get_or l.sources i 0 ≡ q → get_or l.events i 0 ≡ e → enabled c r (grown (t - x.time) x.counts) ≡ can_take c x e t r
    unfolding can_take
    tests_decide s d =
        rw (eq-eqb r.source x.location (sym (source_at n h.sources) ∙ s ∙ at), eq-eqb r.event e (sym (event_at n h.events) ∙ d)) refl

-- ---- a number that is found below another, or none

module _ (n k : ℕ) where
  pub found_is : {i : ℕ} → Some i ≡ found_below n k → i ≡ k
  found_is {i} e = go (ltb k n) refl
    where
      go : (b : Bool) → ltb k n ≡ b → i ≡ k
      go true p = let q = rw p at e in cc
      go false p = absurd (let q = rw p at e in cc)

  pub found_past : None ≡ found_below n k → n ≤ k
  found_past e = go (ltb k n) refl
    where
      go : (b : Bool) → ltb k n ≡ b → n ≤ k
      go true p = absurd (let q = rw p at e in cc)
      go false p = ltb-false k n p

-- ---- all of them

-- no transition below i can be taken
pub record NoneBelow (c : Chart) (x : State) (e t i : ℕ) : Type 0 where
  pub before : (k : ℕ) → k < i → (r : Transition) → get_elem? c.transitions k ≡ some r → can_take c x e t r ≡ false

module _ (c : Chart) (x : State) (e t : ℕ) where
  pub lowest_most : lowest_to_take c x e t ≤ length c.transitions
  unfolding lowest_to_take
  lowest_most = first_le (can_take c x e t) c.transitions

  pub none_yet : NoneBelow c x e t 0
  none_yet = record { before = λ k d. absurd (omega arith) }

  module _ (i : ℕ) (w : NoneBelow c x e t i) where
    module _ {b : Bool} (tried : (r : Transition) → Nth c i r → b ≡ can_take c x e t r) where
      pub none_more : b ≡ false → NoneBelow c x e t (i + 1)
      none_more d = record {
        before = below_more (λ (k : ℕ). (r : Transition) → get_elem? c.transitions k ≡ some r → can_take c x e t r ≡ false) i w.before
            (λ r n. sym (tried r (record { there = n })) ∙ d);
      }

      pub lowest_here : i < length c.transitions → b ≡ true → i ≡ lowest_to_take c x e t
      unfolding lowest_to_take
      lowest_here h d =
          sym (first_is (can_take c x e t) c.transitions i (omega arith) (λ r n. sym (tried r (record { there = n })) ∙ d) w.before)

      pub found_here : {m : ℕ} → m ≡ length c.transitions → i < m → b ≡ true → Some i ≡ found_below m (lowest_to_take c x e t)
      found_here {m} same h d = rw (sym (lowest_here (omega arith) d), lt-ltb i m h) refl

    pub lowest_none : i ≡ length c.transitions → i ≡ lowest_to_take c x e t
    unfolding lowest_to_take
    lowest_none h =
        sym (first_is (can_take c x e t) c.transitions i (omega arith)
        (λ r n. absurd (omega (arith, below_nth c.transitions i n))) w.before)

    pub found_none : {m : ℕ} → m ≡ length c.transitions → i ≡ m → None ≡ found_below m (lowest_to_take c x e t)
    found_none {m} same h = rw (sym (lowest_none (h ∙ same)), le-ltb i m (omega arith)) refl
