-- The numbers that first fit gives to pairs: each pair has the number of its family, and nothing else has one; linked pairs have one number, two
-- timers of a location have two. Hard: that a placed family which has the pair is the pair's own.
use mathlib.Core.Path.{◌≡◌, refl, sym, ap, ◌∙◌, subst}
use mathlib.Core.Logic.{◌⊎◌, inl, inr}
use mathlib.Core.Bool.{true}
use mathlib.Core.Option.{some, none-ne-some}
use mathlib.Core.List.{[]}
use Prim.Native.Nat.{ℕ}
use lib.ListN.{get_elem?}
use Rattle.lists.specs.Lists.{memb}
use Rattle.model.specs.Placing.{FamilyOfPair, PairNumber}
use Rattle.lists.proofs.Bools.{same_bool}
use Rattle.model.specs.Family.{Pairs, is_pair, Linked, Joined, Family, has, family_of, families, WellFormed}
use Rattle.model.specs.FirstFit.{Placed, first_fit, number_at}
use Rattle.model.proofs.FirstFit.{Fitted, place_fitted}
use Rattle.model.proofs.NumberAt.{has_timer, has_location, has_pair, place_in, place_out}
use Rattle.model.proofs.NumberAt.{number_in, number_out, number_same, number_apart}
use Rattle.model.proofs.Joined.{joined_refl, joined_one, joined_sym, joined_pair, linked_sym, linked_pair}
use Rattle.model.proofs.Families.{family_timer, family_has, family_same}
use Rattle.model.proofs.FamilyList.{families_have, families_are}

pub first_fit_fitted : (p : Pairs) → Fitted (first_fit p)
unfolding first_fit
first_fit_fitted p = place_fitted (families p) [] tt

module _ {p : Pairs} (formed : WellFormed p) where
  pub placed_family : (i : ℕ) (g : Placed) → get_elem? (first_fit p) i ≡ some g → FamilyOfPair p g.family
  unfolding first_fit
  placed_family i g e = go (place_out (families p) [] i g e)
    where
      go : ((i : ℕ) × (get_elem? (families p) i ≡ some g.family)) ⊎ ((i : ℕ) × (get_elem? [] i ≡ some g)) → FamilyOfPair p g.family
      go (inl x) = families_are formed x.0 g.family x.1
      go (inr x) = absurd (none-ne-some _ x.1)

  -- a family of a pair has the pair (q, j) if (q, j) is joined to its first
  pub has_joined : (f : Family) (q j : ℕ) → FamilyOfPair p f → has f q j ≡ true → (is_pair p f.first j ≡ true) × Joined p j f.first q
  has_joined f q j a h =
      let t : f.timer ≡ j = has_timer f q j h in
      let pair : is_pair p f.first j ≡ true = subst (λ (x : ℕ). is_pair p f.first x ≡ true) t a.pair in (
        pair,
        (family_has formed f.first j pair q).0
            (subst (λ (x : ℕ). memb q (family_of p f.first x).locations ≡ true) t
            (ap (λ (g : Family). memb q g.locations) (sym a.whole) ∙ has_location f q j h)),
      )

  pub has_whole : (f : Family) (q j : ℕ) → FamilyOfPair p f → has f q j ≡ true → f ≡ family_of p q j
  has_whole f q j a h =
      let x = has_joined f q j a h in
      a.whole ∙ ap (λ (i : ℕ). family_of p f.first i) (has_timer f q j h) ∙ family_same formed x.0 x.1

  -- and it has the pair of its first
  pub has_first : (f : Family) → FamilyOfPair p f → has f f.first f.timer ≡ true
  has_first f a =
      has_pair f f.first f.timer refl
      (ap (λ (g : Family). memb f.first g.locations) a.whole
      ∙ (family_has formed f.first f.timer a.pair f.first).1 (joined_refl f.first))

  pub number_of_pair : (q j : ℕ) → is_pair p q j ≡ true → (k : ℕ) × (number_at (first_fit p) q j ≡ some k)
  unfolding first_fit
  number_of_pair q j pair =
      let e = families_have formed q j pair in
      let x = place_in (families p) [] e.place (family_of p q j) e.is_nth in
      number_in q j (first_fit p) x.place x.placed x.is_nth
      (subst (λ (f : Family). has f q j ≡ true) (sym x.family)
      (has_pair (family_of p q j) q j (family_timer p q j) ((family_has formed q j pair q).1 (joined_refl q))))

  pub number_pair : (q j k : ℕ) → number_at (first_fit p) q j ≡ some k → PairNumber p q j k
  number_pair q j k e =
      let n = number_out q j (first_fit p) k e in
      let a = placed_family n.place n.placed n.is_nth in
      let x = has_joined n.placed.family q j a n.holds in
      record {
        pair = joined_pair formed x.1 x.0;
        place = n.place;
        placed = n.placed;
        is_nth = n.is_nth;
        family = has_whole n.placed.family q j a n.holds;
        number = n.number;
      }

  pub joined_same : {q s j : ℕ} → is_pair p q j ≡ true → Joined p j q s → number_at (first_fit p) q j ≡ number_at (first_fit p) s j
  joined_same {q} {s} {j} pair l = number_same (first_fit p) q s j
      (λ i g e. same_bool _ _ (over (placed_family i g e) pair l) (over (placed_family i g e) (joined_pair formed l pair) (joined_sym l)))
    where
      over : {f : Family} {x y : ℕ} → FamilyOfPair p f → is_pair p x j ≡ true → Joined p j x y → has f x j ≡ true → has f y j ≡ true
      over {f} {x} {y} a pair l h =
          has_pair f y j (has_timer f x j h)
          (ap (λ (g : Family). memb y g.locations) (has_whole f x j a h) ∙ (family_has formed x j pair y).1 l)

  pub linked_same : {q s j : ℕ} → Linked p j q s → number_at (first_fit p) q j ≡ number_at (first_fit p) s j
  linked_same l = joined_same (linked_pair formed (linked_sym l)) (joined_one l)

-- two timers of a location have two numbers
pub apart : (p : Pairs) (q j k j' : ℕ) → number_at (first_fit p) q j ≡ some k → number_at (first_fit p) q j' ≡ some k → j ≡ j'
apart p q j k j' = number_apart q j j' k (first_fit p) (first_fit_fitted p)
