-- The pairs of a chart are well formed, whichever of its timers are taken as live at its locations; and two pairs of its live timers, twins counted
-- as one, are linked exactly where a transition that does not start the timer runs between their locations. The laws of members take the words apart
-- in which links are kept.
use mathlib.Core.Path.{◌≡◌, sym, ap, ◌∙◌, subst}
use mathlib.Core.Logic.{inl, inr, ◌↔◌}
use mathlib.Core.Bool.{Bool, true, false, not, ◌&&◌}
use mathlib.Core.Option.{some}
use mathlib.Core.List.{List}
use Prim.Native.Nat.{ℕ}
use native.Mathlib.Omega.{arith}
use lib.ListN.{get_elem?}
use Rattle.timer_set.specs.Members.{member}
use Rattle.timer_set.proofs.Members.{member_minus, member_common, member_set_of}
use Rattle.lists.specs.Lists.{memb}
use Rattle.lists.proofs.Bools.{not-true, and_left, and_right, and_both}
use Rattle.lists.proofs.Membership.{nth_map, nth_unmap}
use Rattle.model.specs.Chart.{Transition, Chart}
use Rattle.model.specs.Valid.{Valid}
use Rattle.model.specs.Live.{starts_set}
use Rattle.model.specs.Twins.{TwinLive, lowest_twin, merged_sets}
use Rattle.model.specs.Chain.{Between}
use Rattle.model.specs.Family.{Link, is_pair, link_of, pairs_with, live_pairs, Linked, Joined, WellFormed, WellFormedLink}
use Rattle.model.specs.SharingRule.{LiveLink, SameFamily}
use Rattle.model.proofs.Transitions.{nth_valid}
use Rattle.model.proofs.Paths.{Inside, live_inside}
use Rattle.model.proofs.Joined.{chain_wider}
use Rattle.model.proofs.Twins.{lowest_twin_low, twin_lowest, pair_lowest, pair_twin}

module _ (c : Chart) (live : List ℕ) where
  -- the timers that a transition links
  kept_iff : (r : Transition) (m : ℕ) → (member (link_of live r).timers m ≡ true)
      ↔ ((is_pair (pairs_with c live) r.source m ≡ true) × (is_pair (pairs_with c live) r.target m ≡ true) × (memb m r.starts ≡ false))
  unfolding is_pair starts_set
  kept_iff r m = (
    λ h.
        let x = sym kept_is ∙ h in
        let b = and_left (here && there) _ x in
        (and_left here there b, and_right here there b, not-true _ (and_right (here && there) _ x)),
    λ x. kept_is ∙ and_both (and_both x.0 x.1) (ap not x.2),
  )
    where
      here : Bool
      here = is_pair (pairs_with c live) r.source m

      there : Bool
      there = is_pair (pairs_with c live) r.target m

      kept_is : member (link_of live r).timers m ≡ ((here && there) && not (memb m r.starts))
      kept_is = rw (member_minus, member_common, member_set_of)

  -- pairs of the chart's locations and timers, linked by its transitions, are well formed
  pub pairs_formed : {W : ℕ} → Valid W c → ((q m : ℕ) → is_pair (pairs_with c live) q m ≡ true → Inside c q m) → WellFormed (pairs_with c live)
  pairs_formed valid inside = record {
    few_timers = valid.few_timers;
    location = λ q j h. (inside q j h).location;
    timer = λ q j h. (inside q j h).timer;
    link = λ i l e.
        let x = nth_unmap (link_of live) c.transitions i e in
        subst (WellFormedLink (pairs_with c live)) x.2 (of_transition x.0 i x.1);
  }
    where
      of_transition : (r : Transition) (i : ℕ) → get_elem? c.transitions i ≡ some r → WellFormedLink (pairs_with c live) (link_of live r)
      of_transition r i e = let v = nth_valid valid {i = i} (record { there = e }) in record {
        one = v.source;
        other = v.target;
        pair_one = λ j m. ((kept_iff r j).0 m).0;
        pair_other = λ j m. ((kept_iff r j).0 m).1;
      }

-- the link of a transition, twins counted as one
abbrev link : Chart → Transition → Link
link c r = link_of (merged_sets c) r

module _ {W : ℕ} {c : Chart} (valid : Valid W c) where
  -- a pair is of the chart's locations and timers
  pair_inside : (q m : ℕ) → is_pair (live_pairs c) q m ≡ true → Inside c q m
  pair_inside q m h =
      let x = (pair_lowest valid q m).0 h in
      let i = live_inside valid x.live in
      record { location = i.location; timer = omega (arith, i.timer, x.lowest_is, lowest_twin_low c x.timer) }

  pub live_pairs_formed : WellFormed (live_pairs c)
  unfolding live_pairs
  live_pairs_formed = pairs_formed c (merged_sets c) valid pair_inside

  -- linked exactly where a transition that does not start the timer runs between the two locations, and a twin is live at both
  pub linked_iff : (j q s : ℕ) → Linked (live_pairs c) (lowest_twin c j) q s ↔ LiveLink c j q s
  unfolding live_pairs
  linked_iff j q s = (
    λ l.
        let x = nth_unmap (link c) c.transitions l.number l.is_nth in
        let k = (kept_iff c (merged_sets c) x.0 m).0 (rw (← x.2) at l.holds) in
        let e : Ends (link c x.0) = subst Ends (sym x.2) l.ends in
        let live = (pair_twin valid _ j).0 k.0 in
        let b = (at_ends (link c x.0) e).0 (live, (pair_twin valid _ j).0 k.1) in
        record {
          number = l.number;
          transition = x.0;
          is_nth = record { there = x.1 };
          not_started = (twin_lowest valid live).twin.together l.number x.0 (record { there = x.1 }) ∙ k.2;
          ends = e;
          live_one = b.0;
          live_other = b.1;
        },
    λ l.
        let b = (at_ends (link c l.transition) l.ends).1 (l.live_one, l.live_other) in
        let not_started = sym ((twin_lowest valid l.live_one).twin.together l.number l.transition l.is_nth) ∙ l.not_started in
        record {
          number = l.number;
          link = link c l.transition;
          is_nth = nth_map (link c) c.transitions l.number l.is_nth.there;
          holds = (kept_iff c (merged_sets c) l.transition m).1 ((pair_twin valid _ j).1 b.0, (pair_twin valid _ j).1 b.1, not_started);
          ends = l.ends;
        },
  )
    where
      m : ℕ
      m = lowest_twin c j

      Ends : Link → Type 0
      Ends y = Between y.one y.other q s

      at_ends : (y : Link) → Ends y → (TwinLive c y.one j × TwinLive c y.other j) ↔ (TwinLive c q j × TwinLive c s j)
      at_ends y (inl e) = rw (e.0, e.1) (λ x. x, λ x. x)
      at_ends y (inr e) = rw (e.0, e.1) (λ x. (x.1, x.0), λ x. (x.1, x.0))

  -- of one family exactly where a chain of such transitions joins the two pairs
  pub joined_iff : (j q s : ℕ) → TwinLive c q j → Joined (live_pairs c) (lowest_twin c j) q s ↔ SameFamily c j q s
  joined_iff j q s pair = (
    λ a. record { pair = pair; way = a.way; chain = chain_wider _ _ (λ x y. (linked_iff j x y).0) a.way q s a.chain },
    λ a. record { way = a.way; chain = chain_wider _ _ (λ x y. (linked_iff j x y).1) a.way q s a.chain },
  )
