-- What waits at a head is served within as many turns as there are heads, whatever is called. Hard: the number of turns before the head's own, which
-- falls by one with each turn that is another's, also where the turns go round.
use mathlib.Core.Path.{◌≡◌, refl, sym, ap, ◌∙◌, subst}
use mathlib.Core.Logic.{◌⊎◌, inl, inr}
use mathlib.Core.Bool.{true, false}
use mathlib.Core.List.{List, [], ◌∷◌}
use Prim.Native.Nat.{ℕ, suc, ◌+◌, ◌-◌, ◌%◌, ◌≤◌, ◌<◌}
use native.Mathlib.Nat.{mod-eq_of_lt, mod_self}
use native.Mathlib.Decide.{ℕ_discrete}
use native.Mathlib.Omega.{arith}
use lib.Dec.{ltb}
use lib.ListN.{length, get_elem?}
use lib.Seq.{get_or-set_same, get_or-set_other}
use Rattle.lists.proofs.Bools.{and_right, not_both, not-true, lt_or_le}
use Rattle.lists.proofs.Nth.{nth_below}
use Rattle.model.specs.Answer.{Answer, returned}
use Rattle.model.specs.Chart.{Chart}
use Rattle.model.specs.Run.{Step}
use Rattle.controller_model.specs.declared.Head.{Head}
use Rattle.controller_model.specs.declared.Controller.{Controller}
use Rattle.controller_model.specs.declared.Heads.{Heads}
use Rattle.controller_model.specs.Serving.{standing, head_at, waits, Done, next_turn, passed, leave, served, turned}
use Rattle.controller_model.specs.Controlling.{Call, event, turn, receive, free, done_by, called, state_after, after_calls, turns_in}
use Rattle.controller_model.specs.Promise.{Serves}
use Rattle.controller_model.proofs.Standing.{standing_waits}
use Rattle.controller_model.proofs.Turns.{Fits, AllStand, TurnIs, turned_serves, turn_is, EventIs, event_is, head_below, call_stands}
use Rattle.controller_model.proofs.Turns.TurnIs.{is_passed, is_served}
use Rattle.controller_model.proofs.Turns.EventIs.{is_refused, is_received}

-- d turns pass before it is h's, n heads going round
abbrev pub Distance : (n h t d : ℕ) → Type 0
Distance n h t d = (t + d ≡ h) ⊎ (t + d ≡ h + n)

pub some_distance : (n h t : ℕ) → h < n → t < n → (d : ℕ) × (d < n) × Distance n h t d
some_distance n h t l m = go (lt_or_le h t)
  where
    go : (h < t) ⊎ (t ≤ h) → (d : ℕ) × (d < n) × Distance n h t d
    go (inl x) = ((h + n) - t, omega arith, inr (omega arith))
    go (inr x) = (h - t, omega arith, inl (omega arith))

-- the next turn is one nearer
nearer : (n h t d : ℕ) → h < n → t < n → d < n → (t ≡ h → ⊥) → Distance n h t d → (e : ℕ) × (suc e ≡ d) × Distance n h ((t + 1) % n) e
nearer n h t d l m b ne (inl x) =
    (d - 1, omega (arith, x, ne), inl (rw (mod-eq_of_lt {n = t + 1} {m = n} (omega (arith, x, ne))) (omega (arith, x, ne))))
nearer n h t d l m b ne (inr x) = go (lt_or_le (t + 1) n)
  where
    go : (t + 1 < n) ⊎ (n ≤ t + 1) → (e : ℕ) × (suc e ≡ d) × Distance n h ((t + 1) % n) e
    go (inl y) = (d - 1, omega (arith, x, ne), inr (rw (mod-eq_of_lt {n = t + 1} {m = n} y) (omega (arith, x, ne))))
    go (inr y) =
        let e : t + 1 ≡ n = omega arith in
        let z : (t + 1) % n ≡ 0 = ap (λ (k : ℕ). k % n) e ∙ mod_self n in
        (d - 1, omega (arith, x, ne), inl (omega (arith, x, z)))

-- ---- what a call leaves of the turn and of a head that it is not for

module _ (blocks : List ℕ) (cs : List Chart) (s : Controller) where
  pub turned_others : s.turn < length cs → (g : ℕ) → (g ≡ s.turn → ⊥) → head_at (turned blocks cs s).state g ≡ head_at s g
  unfolding passed served leave
  turned_others b g d = go (turn_is blocks cs s b)
    where
      go : TurnIs blocks cs s → head_at (turned blocks cs s).state g ≡ head_at s g
      go (is_passed w e) = ap (λ (y : Done). head_at y.state g) e
      go (is_served w c n e) = ap (λ (y : Done). head_at y.state g) e ∙ get_or-set_other s.heads s.turn g _ (standing 0 0) d

  pub turned_turn : s.turn < length cs → (turned blocks cs s).state.turn ≡ next_turn (length cs) s.turn
  unfolding passed served leave
  turned_turn b = go (turn_is blocks cs s b)
    where
      go : TurnIs blocks cs s → (turned blocks cs s).state.turn ≡ next_turn (length cs) s.turn
      go (is_passed w e) = ap (λ (y : Done). y.state.turn) e
      go (is_served w c n e) = ap (λ (y : Done). y.state.turn) e

  -- the event is gone
  served_gone : (n h : ℕ) (c : Chart) → h < length s.heads → waits (head_at (served n blocks c h s).state h) ≡ false
  unfolding served leave
  served_gone n h c b = ap waits (get_or-set_same s.heads h _ (standing 0 0) b) ∙ standing_waits _ _

  module _ (h e t : ℕ) where
    event_turn : (state_after s (done_by blocks cs s (event h e t))).turn ≡ s.turn
    unfolding receive
    event_turn = go (event_is blocks cs s h e t)
      where
        go : EventIs blocks cs s h e t → (state_after s (done_by blocks cs s (event h e t))).turn ≡ s.turn
        go (is_refused n m q) = ap (λ (y : Answer Done). (state_after s y).turn) q
        go (is_received f l b q) = ap (λ (y : Answer Done). (state_after s y).turn) q

    -- 26 keeps what waits
    event_keeps : (g : ℕ) → waits (head_at s g) ≡ true → head_at (state_after s (done_by blocks cs s (event h e t))) g ≡ head_at s g
    unfolding receive free
    event_keeps g w = go (event_is blocks cs s h e t)
      where
        go : EventIs blocks cs s h e t → head_at (state_after s (done_by blocks cs s (event h e t))) g ≡ head_at s g
        go (is_refused n m q) = ap (λ (y : Answer Done). head_at (state_after s y) g) q
        go (is_received f l b q) =
            let nothing_waits : waits (head_at s h) ≡ false = not-true _ (and_right (ltb h (length cs)) _ f) in
            ap (λ (y : Answer Done). head_at (state_after s y) g) q
            ∙ get_or-set_other s.heads h g _ (standing 0 0) (λ x. not_both (ap (λ (k : ℕ). waits (head_at s k)) (sym x) ∙ w) nothing_waits)

-- ---- the list of calls

module _ (files : List ℕ) (hs : Heads) (K : ℕ) (cs : List Chart) (fits : Fits K hs.blocks cs) (counts : ℕ → List ℕ)
    (decided : (s : Controller) (es : ℕ → List Step) → AllStand hs.blocks cs counts s es
    → (k : Call) → called files hs K s k ≡ done_by hs.blocks cs s k) where
  -- one call before
  earlier : {h e t m n : ℕ} {s : Controller} {ks : List Call} (k : Call) → turns_in (k ∷ []) + m ≤ n
      → Serves files hs K cs h e t m (state_after s (called files hs K s k)) ks → Serves files hs K cs h e t n s (k ∷ ks)
  unfolding after_calls turns_in
  earlier {m = m} {n = n} k l x = record {
    before = k ∷ x.before;
    rest = x.rest;
    parts = ap (λ (ks : List Call). k ∷ ks) x.parts;
    few = more k x.before l x.few;
    chart = x.chart;
    is_chart = x.is_chart;
    still = x.still;
    same_event = x.same_event;
    same_time = x.same_time;
    serves = x.serves;
    gone = x.gone;
  }
    where
      more : (k : Call) (ks : List Call) → turns_in (k ∷ []) + m ≤ n → turns_in ks < m → turns_in (k ∷ ks) < n
      more (event h e t) ks l f = omega arith
      more turn ks l f = omega arith

  -- the head d waits at number h
  module _ (h : ℕ) (d : Head) (w : waits d ≡ true) (b : h < length cs) where
    abbrev Soon : (m : ℕ) → Controller → List Call → Type 0
    Soon m s ks = Serves files hs K cs h d.event d.waiting_time m s ks

    abbrev after : Controller → Call → Controller
    after s k = state_after s (done_by hs.blocks cs s k)

    now : (ks : List Call) (s : Controller) (es : ℕ → List Step) (m : ℕ) → AllStand hs.blocks cs counts s es → head_at s h ≡ d → s.turn ≡ h
        → Soon (suc m) s (turn ∷ ks)
    unfolding turns_in after_calls done_by
    now ks s es m a q y =
        let n = nth_below cs h b in
        let waits_here : waits (head_at s h) ≡ true = ap waits q ∙ w in
        record {
          before = [];
          rest = ks;
          parts = refl;
          few = omega arith;
          chart = n.0;
          is_chart = n.1;
          still = waits_here;
          same_event = ap (λ (x : Head). x.event) q;
          same_time = ap (λ (x : Head). x.waiting_time) q;
          serves = decided s es a turn
              ∙ ap returned (turned_serves hs.blocks cs s (ap (λ (k : ℕ). waits (head_at s k)) y ∙ waits_here) (ap (get_elem? cs) y ∙ n.1)
              ∙ ap (λ (k : ℕ). served (length cs) hs.blocks n.0 k s) y);
          gone = served_gone hs.blocks cs s (length cs) h n.0 (head_below K hs.blocks cs fits counts s es a h n.0 n.1);
        }

    pub serves_soon : (ks : List Call) (s : Controller) (es : ℕ → List Step) (m : ℕ) → AllStand hs.blocks cs counts s es → head_at s h ≡ d
        → m < length cs → Distance (length cs) h s.turn m → m < turns_in ks → Soon (suc m) s ks
    unfolding turns_in done_by next_turn
    serves_soon [] s es m a q l x f = absurd (omega arith)
    serves_soon (event g e t ∷ ks) s es m a q l x f =
        earlier (event g e t) (omega arith)
        (subst (λ (y : Answer Done). Soon (suc m) (state_after s y) ks) (sym (decided s es a (event g e t)))
        (serves_soon ks (after s (event g e t)) _ m (call_stands K hs.blocks cs fits counts s es a (event g e t))
        (event_keeps hs.blocks cs s g e t h (ap waits q ∙ w) ∙ q) l (rw (event_turn hs.blocks cs s g e t) x) f))
    serves_soon (turn ∷ ks) s es m a q l x f =
        go (ℕ_discrete s.turn h)
        (λ (k : ℕ). serves_soon ks (after s turn) _ k (call_stands K hs.blocks cs fits counts s es a turn))
      where
        go : Dec (s.turn ≡ h)
            → ((k : ℕ) → head_at (after s turn) h ≡ d → k < length cs → Distance (length cs) h (after s turn).turn k → k < turns_in ks
            → Soon (suc k) (after s turn) ks) → Soon (suc m) s (turn ∷ ks)
        go (yes y) ih = now ks s es m a q y
        go (no y) ih =
            let z = nearer (length cs) h s.turn m b a.turn l y x in
            earlier {m = suc z.0} turn (omega (arith, z.1))
            (subst (λ (u : Answer Done). Soon (suc z.0) (state_after s u) ks) (sym (decided s es a turn))
            (ih z.0 (turned_others hs.blocks cs s a.turn h (λ e. y (sym e)) ∙ q) (omega (arith, z.1))
            (rw (turned_turn hs.blocks cs s a.turn) z.2) (omega (arith, z.1))))
