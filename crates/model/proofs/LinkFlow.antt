-- What stands at a location of a pair passes along the links to exactly the locations of its family. Hard: a link is two edges, to and fro, each of
-- which cuts all but the link's timers.
use mathlib.Core.Path.{◌≡◌, refl, sym, ap, ◌∙◌, subst, subst₂}
use mathlib.Core.Logic.{◌⊎◌, inl, inr, ◌↔◌}
use mathlib.Core.Bool.{Bool, true, false, not, ◌&&◌}
use mathlib.Core.Option.{some}
use mathlib.Core.List.{map, ◌++◌}
use Prim.Native.Nat.{ℕ, ◌^◌, ◌<◌}
use native.Mathlib.Omega.{arith}
use lib.Dec.{eqb}
use lib.ListN.{get_or, get_elem?}
use Rattle.timer_set.specs.Members.{member, minus, every_timer}
use Rattle.lists.specs.Elements.{Element}
use Rattle.model.specs.Comes.{Comes, Shaped}
use Rattle.timer_set.proofs.Members.{member_empty, member_minus, member_one, member_every}
use lib.Pow.{pow-lt, pow_pos}
use Rattle.lists.proofs.Bools.{not_both, not-false, eqb_self, same_number}
use Rattle.lists.proofs.Membership.{nth_map, nth_unmap}
use Rattle.lists.proofs.Elements.{element_left, element_right, element_cases}
use Rattle.model.specs.Chain.{Between}
use Rattle.model.specs.Flow.{Edge, settled}
use Rattle.model.specs.Family.{Link, Pairs, is_pair, Linked, Joined, link_flow, WellFormed, WellFormedLink}
use Rattle.model.specs.Comes.Comes.{owned, gained, along}
use Rattle.model.proofs.Settled.{settled_iff}
use Rattle.model.proofs.Joined.{joined_refl, joined_one, joined_trans, joined_carries}

-- the edges of a link, to and fro
abbrev edge : (into from timers : ℕ) → Edge
edge into from timers = record { into = into; from = from; cut = minus every_timer timers; gain = 0 }

abbrev fro : Link → Edge
fro l = edge l.one l.other l.timers

abbrev to : Link → Edge
to l = edge l.other l.one l.timers

-- e is an edge of a link
record EdgeOfLink (p : Pairs) (e : Edge) : Type 0 where
  pub number : ℕ
  pub link : Link
  pub is_nth : get_elem? p.links number ≡ some link
  pub cut : e.cut ≡ minus every_timer link.timers
  pub gain : e.gain ≡ 0
  pub ends : Between link.one link.other e.from e.into

module _ (p : Pairs) (j q : ℕ) where
  edge_out : (i : ℕ) {e : Edge} → get_elem? (link_flow p j q).edges i ≡ some e → EdgeOfLink p e
  unfolding link_flow
  edge_out i {e} h = go (element_cases (map fro p.links) (map to p.links) i h)
    where
      go : Element (map fro p.links) e ⊎ Element (map to p.links) e → EdgeOfLink p e
      go (inl x) = let y = nth_unmap fro p.links x.place x.is_nth in record {
        number = x.place;
        link = y.0;
        is_nth = y.1;
        cut = ap (λ (e : Edge). e.cut) (sym y.2);
        gain = ap (λ (e : Edge). e.gain) (sym y.2);
        ends = inr (ap (λ (e : Edge). e.into) y.2, ap (λ (e : Edge). e.from) y.2);
      }
      go (inr x) = let y = nth_unmap to p.links x.place x.is_nth in record {
        number = x.place;
        link = y.0;
        is_nth = y.1;
        cut = ap (λ (e : Edge). e.cut) (sym y.2);
        gain = ap (λ (e : Edge). e.gain) (sym y.2);
        ends = inl (ap (λ (e : Edge). e.from) y.2, ap (λ (e : Edge). e.into) y.2);
      }

  -- an edge leads over each link, both ways
  edge_in : {x y : ℕ} (l : Linked p j x y) → Element (link_flow p j q).edges (edge y x l.link.timers)
  unfolding link_flow
  edge_in {x} {y} l = go l.ends
    where
      go : Between l.link.one l.link.other x y
          → Element (map fro p.links ++ map to p.links) (edge y x l.link.timers)
      go (inl e) =
          let there = nth_map to p.links l.number l.is_nth in
          subst₂ (λ (a b : ℕ). Element (map fro p.links ++ map to p.links) (edge b a l.link.timers)) e.0 e.1
          (element_right (map fro p.links) (map to p.links) (record { place = l.number; is_nth = there }))
      go (inr e) =
          subst₂ (λ (a b : ℕ). Element (map fro p.links ++ map to p.links) (edge a b l.link.timers)) e.0 e.1
          (element_left (map fro p.links) (map to p.links) l.number (nth_map fro p.links l.number l.is_nth))

  own_in : member ((link_flow p j q).own q) j ≡ true
  unfolding link_flow
  own_in = rw (eqb_self q, link_flow) (member_one j j ∙ eqb_self j)

  own_out : (s : ℕ) → member ((link_flow p j q).own s) j ≡ true → q ≡ s
  unfolding link_flow
  own_out s h = go (eqb s q) refl h
    where
      go : (b : Bool) → eqb s q ≡ b → member (elim b [ true ↦ 2 ^ j | false ↦ 0 ]) j ≡ true → q ≡ s
      go true e h = sym (same_number e)
      go false e h = absurd (not_both h (member_empty j))

  own_word : j < 64 → (s : ℕ) → (link_flow p j q).own s < 2 ^ 64
  unfolding link_flow
  own_word l s = go (eqb s q)
    where
      go : (b : Bool) → (elim b [ true ↦ 2 ^ j | false ↦ 0 ]) < 2 ^ 64
      go true = pow-lt l
      go false = pow_pos 64

-- a link cuts all but its timers
not_cut : (timers j : ℕ) → j < 64 → member (minus every_timer timers) j ≡ not (member timers j)
not_cut timers j l = member_minus every_timer timers j ∙ ap (λ (b : Bool). b && not (member timers j)) (member_every j l)

module _ {p : Pairs} (formed : WellFormed p) (q j : ℕ) (pair : is_pair p q j ≡ true) where
  few : j < 64
  few = omega (arith, formed.timer q j pair, formed.few_timers)

  edge_inside : {e : Edge} → EdgeOfLink p e → (e.into < p.locations) × (e.from < p.locations)
  edge_inside {e} x = go x.ends
    where
      w : WellFormedLink p x.link
      w = formed.link x.number x.link x.is_nth

      go : Between x.link.one x.link.other e.from e.into
          → (e.into < p.locations) × (e.from < p.locations)
      go (inl e) = (omega (arith, e.1, w.other), omega (arith, e.0, w.one))
      go (inr e) = (omega (arith, e.0, w.one), omega (arith, e.1, w.other))

  shaped : Shaped (link_flow p j q)
  unfolding link_flow
  shaped = record {
    into_below = λ i {e} h. (edge_inside (edge_out p j q i h)).0;
    from_below = λ i {e} h. (edge_inside (edge_out p j q i h)).1;
    own_word = own_word p j q few;
    gain_word = λ i {e} h. rw (edge_out p j q i h).gain (pow_pos 64);
  }

  comes_joined : {s : ℕ} → Comes (link_flow p j q) j s → Joined p j q s
  comes_joined {s} (owned o) = subst (λ (x : ℕ). Joined p j q x) (own_out p j q s o) (joined_refl q)
  comes_joined (gained i g) = absurd (not_both g (ap (λ (w : ℕ). member w j) (edge_out p j q i.number i.is_nth).gain ∙ member_empty j))
  comes_joined {s} (along {e = e} i n c) =
      let x = edge_out p j q i.number i.is_nth in
      let l : Linked p j e.from e.into = record {
        number = x.number;
        link = x.link;
        is_nth = x.is_nth;
        holds = not-false _ (sym (not_cut x.link.timers j few) ∙ ap (λ (w : ℕ). member w j) (sym x.cut) ∙ n);
        ends = x.ends;
      } in
      subst (λ (y : ℕ). Joined p j q y) i.leads (joined_trans (comes_joined c) (joined_one l))

  joined_comes : {s : ℕ} → Joined p j q s → Comes (link_flow p j q) j s
  joined_comes a = joined_carries (λ (x : ℕ). Comes (link_flow p j q) j x) step a (owned (own_in p j q))
    where
      step : (x y : ℕ) → Linked p j x y → Comes (link_flow p j q) j x → Comes (link_flow p j q) j y
      step x y l c =
          let e = edge_in p j q l in
          along (record { number = e.place; is_nth = e.is_nth; leads = refl }) (not_cut l.link.timers j few ∙ ap not l.holds) c

  pub link_flow_iff : (s : ℕ) → s < p.locations → (member (get_or (settled (link_flow p j q)) s 0) j ≡ true) ↔ Joined p j q s
  unfolding link_flow
  link_flow_iff s l = let x = settled_iff (link_flow p j q) shaped s j l in (λ m. comes_joined (x.0 m), λ a. x.1 (joined_comes a))
