-- The sets that go forwards from the initial location are the reached locations, and the timers that some path starts nowhere. Hard: that both are
-- one flow with another cut, so one least fixed point serves both; reached is asked of timer 0.
use mathlib.Core.Path.{◌≡◌, refl, sym, ap, ◌∙◌, subst}
use mathlib.Core.Logic.{◌↔◌}
use mathlib.Core.Bool.{Bool, true, false}
use Prim.Native.Nat.{ℕ, ◌<◌, ◌^◌}
use lib.Dec.{eqb, lit<}
use lib.ListN.{get_or}
use borrow.Author.Tests.{eqb-false, eqb-true, ne_eqb}
use Rattle.timer_set.specs.Members.{member, every_timer}
use Rattle.model.specs.Comes.{Comes, Shaped}
use Rattle.timer_set.proofs.Members.{member_empty, member_every, some_member}
use Rattle.lists.proofs.Bools.{not_both, eqb_self}
use Rattle.model.specs.Chart.{Transition, Chart, Nth}
use Rattle.model.specs.Valid.{Valid}
use Rattle.model.specs.Path.{Reached, Unstarted}
use Rattle.model.specs.Flow.{Edge, Flow}
use Rattle.model.specs.Live.{starts_set, at_initial, unstarted_flow, reached_flow, unstarted_sets, reached_sets, is_empty}
use Rattle.model.proofs.Transitions.{nth_valid}
use Rattle.model.proofs.TransitionSets.{member_starts, edge_of, edge_flow, edge_to, edges_shaped}
use Rattle.model.proofs.Paths.{reached_initial, reached_step, reached_least, unstarted_initial, unstarted_step, unstarted_least}
use Rattle.model.specs.Comes.Comes.{owned, gained, along}
use Rattle.model.proofs.Settled.{settled_words, settled_iff}

-- ---- a set that is not empty has a member

pub member_filled : (w j : ℕ) → member w j ≡ true → is_empty w ≡ false
unfolding is_empty
member_filled w j m = ne_eqb w 0 (λ e. not_both (rw e at m) (member_empty j))

pub filled_member : (w : ℕ) → w < 2 ^ 64 → is_empty w ≡ false → (j : ℕ) × (j < 64) × (member w j ≡ true)
unfolding is_empty
filled_member w l h = some_member 64 w l (eqb-false w 0 h)

-- ---- all timers at the initial location, on along each transition but for its cut

own_initial : (c : Chart) (w : ℕ) → at_initial c w c.initial ≡ w
unfolding at_initial
own_initial c w = rw (eqb_self c.initial, at_initial)

own_only : (c : Chart) (w q j : ℕ) → member (at_initial c w q) j ≡ true → q ≡ c.initial
unfolding at_initial
own_only c w q j h = go (eqb q c.initial) refl h
  where
    go : (b : Bool) → eqb q c.initial ≡ b → member (elim b as (λ _. ℕ) [ true ↦ w | false ↦ 0 ]) j ≡ true → q ≡ c.initial
    go true e m = eqb-true q c.initial e
    go false e m = absurd (not_both m (member_empty j))

own_word : (c : Chart) (q : ℕ) → at_initial c every_timer q < 2 ^ 64
unfolding at_initial every_timer
own_word c q = go (eqb q c.initial)
  where
    go : (b : Bool) → elim b as (λ _. ℕ) [ true ↦ every_timer | false ↦ 0 ] < 2 ^ 64
    go true = lit< tt
    go false = lit< tt

module _ (c : Chart) (cut : Transition → ℕ) where
  abbrev onwards : Transition → Edge
  onwards r = record { into = r.target; from = r.source; cut = cut r; gain = 0 }

  abbrev forward : Flow
  forward = edge_flow c (at_initial c every_timer) onwards

  -- what holds at the initial location, and on over each transition that does not cut j, holds wherever j comes
  comes_least : (j : ℕ) (R : ℕ → Type 0) → R c.initial
      → ((i : ℕ) (r : Transition) → Nth c i r → member (cut r) j ≡ false → R r.source → R r.target) → (q : ℕ) → Comes forward j q → R q
  comes_least j R base step q (owned o) = subst R (sym (own_only c every_timer q j o)) base
  comes_least j R base step q (gained {e = e} i g) =
      let x = edge_of c onwards i.number i.is_nth in
      absurd (not_both (ap (λ (y : Edge). member y.gain j) x.is_edge ∙ g) (member_empty j))
  comes_least j R base step q (along {e = e} i n m) =
      let x = edge_of c onwards i.number i.is_nth in
      subst R (ap (λ (y : Edge). y.into) x.is_edge ∙ i.leads)
      (step i.number x.transition x.is_nth (ap (λ (y : Edge). member y.cut j) x.is_edge ∙ n)
      (subst R (sym (ap (λ (y : Edge). y.from) x.is_edge)) (comes_least j R base step e.from m)))

  comes_initial : (j : ℕ) → j < 64 → Comes forward j c.initial
  comes_initial j l = owned (ap (λ (w : ℕ). member w j) (own_initial c every_timer) ∙ member_every j l)

  comes_step : (j : ℕ) {i : ℕ} {r : Transition} → Nth c i r → member (cut r) j ≡ false → Comes forward j r.source → Comes forward j r.target
  comes_step j n f m = along (edge_to c (at_initial c every_timer) onwards n) f m

  forward_shaped : {W : ℕ} → Valid W c → Shaped forward
  forward_shaped valid =
      edges_shaped c (at_initial c every_timer) onwards (own_word c)
      (λ i r n. let v = nth_valid valid n in (v.target, v.source, lit< tt))

-- ---- the two flows

module _ {W : ℕ} {c : Chart} (valid : Valid W c) where
  pub unstarted_shaped : Shaped (unstarted_flow c)
  unfolding unstarted_flow
  unstarted_shaped = forward_shaped c starts_set valid

  pub reached_shaped : Shaped (reached_flow c)
  unfolding reached_flow
  reached_shaped = forward_shaped c (λ r. 0) valid

  pub unstarted_iff : (q j : ℕ) → q < c.locations → j < 64 → (member (get_or (unstarted_sets c) q 0) j ≡ true) ↔ Unstarted c q j
  unfolding unstarted_sets unstarted_flow
  unstarted_iff q j l b =
      let e = settled_iff (unstarted_flow c) unstarted_shaped q j l in
      (λ h. out (e.0 h), λ x. e.1 (back x))
    where
      out : Comes (forward c starts_set) j q → Unstarted c q j
      out = comes_least c starts_set j (λ s. Unstarted c s j) unstarted_initial (λ i r n f x. unstarted_step x n (sym (member_starts r j) ∙ f)) q

      back : Unstarted c q j → Comes (forward c starts_set) j q
      back = unstarted_least (Comes (forward c starts_set) j) (comes_initial c starts_set j b)
          (λ i r n f m. comes_step c starts_set j n (member_starts r j ∙ f) m)

  pub reached_iff : (q : ℕ) → q < c.locations → (is_empty (get_or (reached_sets c) q 0) ≡ false) ↔ Reached c q
  unfolding reached_sets reached_flow
  reached_iff q l = (
    λ h.
        let x = filled_member (get_or (reached_sets c) q 0) (settled_words (reached_flow c) reached_shaped q) h in
        out x.0 ((settled_iff (reached_flow c) reached_shaped q x.0 l).0 x.2),
    λ x. member_filled (get_or (reached_sets c) q 0) 0 ((settled_iff (reached_flow c) reached_shaped q 0 l).1 (back x)),
  )
    where
      out : (j : ℕ) → Comes (forward c (λ r. 0)) j q → Reached c q
      out j = comes_least c (λ r. 0) j (Reached c) reached_initial (λ i r n f y. reached_step y n) q

      back : Reached c q → Comes (forward c (λ r. 0)) 0 q
      back = reached_least (Comes (forward c (λ r. 0)) 0) (comes_initial c (λ r. 0) 0 (lit< tt))
          (λ i r n m. comes_step c (λ r. 0) 0 n (member_empty 0) m)
