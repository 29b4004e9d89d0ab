-- The sets of each round are what is live by paths of so many transitions, the last ones what is live by paths, and with them what is born. Hard:
-- paths run forwards and the sets backwards: one round more is one transition more in front of a path.
use mathlib.Core.Path.{◌≡◌, sym, ap, ◌∙◌, subst}
use mathlib.Core.Logic.{◌↔◌}
use mathlib.Core.Bool.{true, ◌&&◌}
use mathlib.Core.List.{List, [], ◌∷◌}
use Prim.Native.Nat.{ℕ, zero, suc, ◌≤◌}
use native.Mathlib.Omega.{arith}
use lib.Dec.{lit<}
use lib.ListN.{length, get_or}
use Rattle.timer_set.specs.Members.{member}
use Rattle.lists.specs.Lists.{memb}
use Rattle.model.specs.Comes.{EdgeInto, Shaped}
use Rattle.timer_set.proofs.Members.{member_empty}
use Rattle.lists.proofs.Bools.{not_both, and_left, and_right, and_both}
use Rattle.lists.proofs.Zeros.{get_d_zeros}
use Rattle.model.specs.Chart.{Transition, Chart, Nth}
use Rattle.model.specs.Valid.{Valid}
use Rattle.model.specs.Path.{Path, StartsNowhere, Live, Born}
use Rattle.model.specs.LiveWithin.{LiveWithin}
use Rattle.model.specs.Flow.{Edge, rounds_of, changing, settled}
use Rattle.model.specs.Live.{starts_set, tests_set, live_flow, live_sets, live}
use Rattle.model.proofs.Transitions.{nth_valid}
use Rattle.model.proofs.TransitionSets.{member_starts, member_tests, tests_word, edge_of, edge_to, edges_shaped}
use Rattle.model.proofs.Paths.{live_here, live_back, live_inside}
use Rattle.model.proofs.Flow.{Way, way_as}
use Rattle.model.proofs.Flow.Way.{by_own, by_gain, by_edge}
use Rattle.model.proofs.Rounds.{round_out, round_in, sound}
use Rattle.model.proofs.Settled.{settled_iff}

-- the edge of a transition, backwards
abbrev backwards : Transition → Edge
backwards r = record { into = r.source; from = r.target; cut = starts_set r; gain = tests_set r }

-- one round finds at q what is live by a path of one transition more than those before it
way_live_iff : (c : Chart) (j k q : ℕ) → Way (live_flow c) j (λ s. LiveWithin c k s j) q ↔ LiveWithin c (suc k) q j
unfolding live_flow live_here live_back
way_live_iff c j k q = (out, λ l. back l.live.front l.live l.live.leads l.live.unstarted l.at_most)
  where
    out : Way (live_flow c) j (λ s. LiveWithin c k s j) q → LiveWithin c (suc k) q j
    out (by_own o) = absurd (not_both o (member_empty j))
    out (by_gain i g) = let x = edge_of c backwards i.number i.is_nth in record {
      live = live_here (record {
        number = i.number;
        transition = x.transition;
        is_nth = x.is_nth;
        leaves = ap (λ (y : Edge). y.into) x.is_edge ∙ i.leads;
        tests_it = sym (member_tests x.transition j) ∙ ap (λ (y : Edge). member y.gain j) x.is_edge ∙ g;
      });
      at_most = omega arith;
    }
    out (by_edge i n m) =
        let x = edge_of c backwards i.number i.is_nth in
        let not_started = sym (member_starts x.transition j) ∙ ap (λ (y : Edge). member y.cut j) x.is_edge ∙ n in
        let l = subst (λ (s : ℕ). LiveWithin c k s j) (sym (ap (λ (y : Edge). y.from) x.is_edge)) m in
        subst (λ (s : ℕ). LiveWithin c (suc k) s j) (ap (λ (y : Edge). y.into) x.is_edge ∙ i.leads)
        (record { live = live_back x.is_nth not_started l.live; at_most = omega (arith, l.at_most) })

    into : {i : ℕ} {r : Transition} → Nth c i r → r.source ≡ q → EdgeInto (live_flow c) q (backwards r)
    into {r = r} n leaves = subst (λ (s : ℕ). EdgeInto (live_flow c) s (backwards r)) leaves (edge_to c (λ q. 0) backwards n)

    back : (p : List ℕ) (l : Live c q j) → Path c q p l.end → StartsNowhere c j p → suc (length p) ≤ suc k
        → Way (live_flow c) j (λ s. LiveWithin c k s j) q
    back [] l w u a = by_gain (into l.read.is_nth (l.read.leaves ∙ sym w)) (member_tests l.read.transition j ∙ l.read.tests_it)
    back (i ∷ p) l w u a =
        by_edge (into w.1 w.2) (member_starts w.0 j ∙ u.0 w.0 w.1) (record {
          live = record { front = p; end = l.end; leads = w.3; unstarted = u.1; read = l.read };
          at_most = omega arith;
        })

module _ {W : ℕ} {c : Chart} (valid : Valid W c) where
  pub live_shaped : Shaped (live_flow c)
  unfolding live_flow
  live_shaped =
      edges_shaped c (λ q. 0) backwards (λ q. lit< tt)
      (λ i r n. let v = nth_valid valid n in (v.source, v.target, tests_word valid n))

  -- the sets after k rounds: what is live by a path of at most k transitions
  pub round_live_iff : (k q j : ℕ) → (member (get_or (rounds_of (live_flow c) k) q 0) j ≡ true) ↔ LiveWithin c k q j
  unfolding rounds_of live_flow
  round_live_iff zero q j = (λ h. absurd (not_both (rw get_d_zeros at h) (member_empty j)), λ l. absurd (omega (arith, l.at_most)))
  round_live_iff (suc k) q j = (
    λ h. (way_live_iff c j k q).0 (way_as (λ s. (round_live_iff k s j).0) (round_out (live_flow c) (rounds_of (live_flow c) k) q j h).way),
    λ l. round_in (live_flow c) (rounds_of (live_flow c) k) q j (record {
      below = (live_inside valid l.live).location;
      way = way_as (λ s. (round_live_iff k s j).1) ((way_live_iff c j k q).1 l);
    }),
  )

  -- the sets after the last round: what is live by a path
  pub live_iff : (q j : ℕ) → (live c q j ≡ true) ↔ Live c q j
  unfolding live live_sets live_flow settled
  live_iff q j = (
    λ h. ((round_live_iff (changing (live_flow c)) q j).0 h).live,
    λ l.
        let found = (round_live_iff (suc (length l.front)) q j).1 (record { live = l; at_most = omega arith }) in
        (settled_iff (live_flow c) live_shaped q j (live_inside valid l).location).1 (sound (live_flow c) _ q j found),
  )

  -- born on r: r starts the timer, and it is in the live set of r's target
  pub born_iff : (r : Transition) (j : ℕ) → Born c r j ↔ ((memb j r.starts && live c r.target j) ≡ true)
  born_iff r j = (
    λ b. and_both b.started ((live_iff r.target j).1 b.active),
    λ h. record {
      started = and_left _ (live c r.target j) h;
      active = (live_iff r.target j).0 (and_right (memb j r.starts) _ h);
    },
  )
