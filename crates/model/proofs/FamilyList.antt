-- The list of all families: each pair's family stands in it, each of its elements is the family of a pair, and their numbers rise strictly, so that
-- each family stands once. Hard: the numbers rise over two nested loops, within a location and from one to the next.
use mathlib.Core.Path.{◌≡◌, refl, sym, ap, ap₂, ◌∙◌, subst}
use mathlib.Core.Bool.{Bool, true, false}
use mathlib.Core.Option.{some, none-ne-some, some-injective}
use mathlib.Core.List.{List, [], ◌∷◌, map}
use Prim.Native.Nat.{ℕ, zero, suc, ◌+◌, ◌*◌}
use native.Mathlib.Omega.{arith}
use lib.Dec.{eqb}
use lib.ListN.{get_elem?}
use borrow.Author.Tests.{eq-eqb}
use Rattle.lists.specs.Lists.{gather}
use Rattle.lists.specs.Rising.{Rising}
use Rattle.lists.specs.Elements.{Element}
use Rattle.model.specs.Placing.{FamilyOfPair}
use Rattle.lists.proofs.Bools.{same_number}
use Rattle.lists.proofs.Elements.{gather_in, gather_out, gather_rising, rising_wider}
use Rattle.model.specs.Family.{Pairs, is_pair, Joined, Family, family_number, family_of, family_from, families, WellFormed}
use Rattle.model.proofs.Joined.{joined_pair}
use Rattle.model.proofs.Families.{family_timer, first_joined, family_same}

module _ (p : Pairs) (q j : ℕ) where
  -- the pair's family, or none
  abbrev family_if : Bool → List Family
  family_if b = elim b [ true ↦ family_of p q j ∷ [] | false ↦ [] ]

  from_in : is_pair p q j ≡ true → (family_of p q j).first ≡ q → Element (family_from p q j) (family_of p q j)
  unfolding family_from
  from_in pair e = rw (pair, family_from) (rw (eq-eqb _ q e) (record { place = 0; is_nth = refl }))

  from_out : (i : ℕ) {f : Family} → get_elem? (family_from p q j) i ≡ some f → FamilyOfPair p f
  unfolding family_from
  from_out i {f} h = go (is_pair p q j) refl h
    where
      one : (i : ℕ) → get_elem? (family_of p q j ∷ []) i ≡ some f → family_of p q j ≡ f
      one zero e = some-injective _ _ e
      one (suc i) e = absurd (none-ne-some _ e)

      this : is_pair p q j ≡ true → (family_of p q j).first ≡ q → family_of p q j ≡ f → FamilyOfPair p f
      this pair a e =
          let first : f.first ≡ q = ap (λ (g : Family). g.first) (sym e) ∙ a in
          let timer : f.timer ≡ j = ap (λ (g : Family). g.timer) (sym e) ∙ family_timer p q j in
          record { pair = rw first (rw timer pair); whole = sym e ∙ ap₂ (family_of p) (sym first) (sym timer) }

      low : (b : Bool) → eqb (family_of p q j).first q ≡ b → is_pair p q j ≡ true
          → get_elem? (family_if b) i ≡ some f → FamilyOfPair p f
      low true u t h = this t (same_number u) (one i h)
      low false u t h = absurd (none-ne-some _ h)

      go : (b : Bool) → is_pair p q j ≡ b
          → get_elem? (elim b [ false ↦ [] | true ↦ family_if (eqb (family_of p q j).first q) ]) i ≡ some f → FamilyOfPair p f
      go true t h = low (eqb (family_of p q j).first q) refl t h
      go false t h = absurd (none-ne-some _ h)

  from_rising : Rising (64 * q + suc j) (64 * q + j) (map family_number (family_from p q j))
  unfolding family_from family_number
  from_rising = go (is_pair p q j)
    where
      low : (b : Bool) → eqb (family_of p q j).first q ≡ b → Rising (64 * q + suc j) (64 * q + j) (map family_number (family_if b))
      low true u = let e : (family_of p q j).first ≡ q = same_number u in let t = family_timer p q j in ((omega arith, omega arith), tt)
      low false u = tt

      go : (b : Bool)
          → Rising (64 * q + suc j) (64 * q + j) (map family_number (elim b [ false ↦ [] | true ↦ family_if (eqb (family_of p q j).first q) ]))
      go true = low (eqb (family_of p q j).first q) refl
      go false = tt

module _ {p : Pairs} (formed : WellFormed p) where
  pub families_have : (q j : ℕ) → is_pair p q j ≡ true → Element (families p) (family_of p q j)
  unfolding families
  families_have q j pair =
      let x = (family_of p q j).first in
      let a : Joined p j q x = first_joined formed q j pair in
      let there : is_pair p x j ≡ true = joined_pair formed a pair in
      let same : family_of p q j ≡ family_of p x j = family_same formed pair a in
      subst (λ (f : Family). Element (families p) f) (sym same)
      (gather_in _ p.locations x (formed.location x j there)
      (gather_in _ p.timers j (formed.timer x j there) (from_in p x j there (ap (λ (f : Family). f.first) (sym same)))))

  pub families_are : (i : ℕ) (f : Family) → get_elem? (families p) i ≡ some f → FamilyOfPair p f
  unfolding families
  families_are i f e =
      let a = gather_out _ p.locations i e in
      let b = gather_out _ p.timers a.element.place a.element.is_nth in
      from_out p a.number b.number b.element.place b.element.is_nth

  pub families_rising : Rising (64 * p.locations) 0 (map family_number (families p))
  unfolding families
  families_rising =
      (gather_rising (λ q. gather (λ j. family_from p q j) p.timers) family_number (λ (q : ℕ). 64 * q) (λ q. omega arith) row p.locations).1
    where
      row : (q : ℕ) → Rising (64 * suc q) (64 * q) (map family_number (gather (λ j. family_from p q j) p.timers))
      row q =
          rising_wider (64 * q + p.timers) (64 * suc q) (64 * q + 0) (64 * q) (map family_number (gather (λ j. family_from p q j) p.timers))
          (gather_rising (λ j. family_from p q j) family_number (λ (j : ℕ). 64 * q + j) (λ j. omega arith) (from_rising p q) p.timers).1
          (omega (arith, formed.few_timers)) (omega arith)
