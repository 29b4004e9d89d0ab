-- The family computed of a pair is the family by chains of links: its locations, its lowest one, and the same for each of its pairs. Hard: that all
-- pairs of a family compute the same one: their rising lists of locations have the same elements.
use mathlib.Core.Path.{◌≡◌, refl, sym, ◌∙◌}
use mathlib.Core.Logic.{◌↔◌}
use mathlib.Core.Bool.{true}
use Prim.Native.Nat.{ℕ, ◌≤◌, ◌<◌}
use native.Mathlib.Nat.{le_antisymm}
use native.Mathlib.Omega.{arith}
use lib.ListN.{get_or}
use Rattle.timer_set.specs.Members.{member}
use Rattle.lists.specs.Lists.{memb}
use Rattle.lists.specs.Rising.{Rising}
use Rattle.lists.proofs.Bools.{same_bool}
use Rattle.lists.proofs.Lowest.{lowest_passes, lowest_most}
use Rattle.lists.proofs.Gather.{pick_in, pick_out, pick_rising}
use Rattle.lists.proofs.Rising.{rising_same}
use Rattle.model.specs.Flow.{settled}
use Rattle.model.specs.Family.{Pairs, is_pair, Joined, Family, link_flow, family_of, WellFormed}
use Rattle.model.proofs.Joined.{joined_refl, joined_trans, joined_sym, joined_pair}
use Rattle.model.proofs.LinkFlow.{link_flow_iff}

same_family : (f g : Family) → f.timer ≡ g.timer → f.first ≡ g.first → f.locations ≡ g.locations → f ≡ g
same_family f g t a l = λ i. record { timer = t i; first = a i; locations = l i }

pub family_timer : (p : Pairs) (q j : ℕ) → (family_of p q j).timer ≡ j
unfolding family_of
family_timer p q j = refl

module _ {p : Pairs} (formed : WellFormed p) (q j : ℕ) (pair : is_pair p q j ≡ true) where
  in_family_lem : (s : ℕ) → Joined p j q s → (s < p.locations) × (member (get_or (settled (link_flow p j q)) s 0) j ≡ true)
  in_family_lem s a = let l = formed.location s j (joined_pair formed a pair) in (l, (link_flow_iff formed q j pair s l).1 a)

  pub family_has : (s : ℕ) → (memb s (family_of p q j).locations ≡ true) ↔ Joined p j q s
  unfolding family_of
  family_has s = (
    λ m. let x = pick_out _ p.locations s m in (link_flow_iff formed q j pair s x.0).0 x.1,
    λ a. let x = in_family_lem s a in pick_in _ p.locations s x.0 x.1,
  )

  -- the lowest location of the family
  pub first_least : (s : ℕ) → Joined p j q s → (family_of p q j).first ≤ s
  unfolding family_of
  first_least s a = lowest_most _ p.locations s (in_family_lem s a).1

  pub first_joined : Joined p j q (family_of p q j).first
  unfolding family_of
  first_joined =
      let below : (family_of p q j).first < p.locations = omega (arith, first_least q (joined_refl q), formed.location q j pair) in
      (link_flow_iff formed q j pair (family_of p q j).first below).0 (lowest_passes _ p.locations below)

  pub family_rising : Rising p.locations 0 (family_of p q j).locations
  unfolding family_of
  family_rising = pick_rising _ p.locations

module _ {p : Pairs} (formed : WellFormed p) {j : ℕ} where
  -- the pairs of a family have the same one
  pub family_same : {q s : ℕ} → is_pair p q j ≡ true → Joined p j q s → family_of p q j ≡ family_of p s j
  family_same {q} {s} pair a =
      same_family (family_of p q j) (family_of p s j) (family_timer p q j ∙ sym (family_timer p s j))
      (le_antisymm (first_least formed q j pair _ (joined_trans a (first_joined formed s j pair')))
      (first_least formed s j pair' _ (joined_trans (joined_sym a) (first_joined formed q j pair))))
      (rising_same p.locations p.locations 0 _ _ (family_rising formed q j pair) (family_rising formed s j pair') (λ x. same_bool _ _
      (λ m. (family_has formed s j pair' x).1 (joined_trans (joined_sym a) ((family_has formed q j pair x).0 m)))
      (λ m. (family_has formed q j pair x).1 (joined_trans a ((family_has formed s j pair' x).0 m)))))
    where
      pair' : is_pair p s j ≡ true
      pair' = joined_pair formed a pair
