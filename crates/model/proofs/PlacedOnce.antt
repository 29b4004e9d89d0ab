-- First fit places each family once, so a placed family that has a pair gives the pair its number. Hard: no family stands twice: the family numbers
-- of the placed ones fall strictly.
use mathlib.Core.Path.{◌≡◌, refl, sym, ap, ◌∙◌}
use mathlib.Core.Bool.{Bool, true, false}
use mathlib.Core.Option.{some, none-ne-some, some-injective}
use mathlib.Core.List.{List, [], ◌∷◌, map}
use Prim.Native.Nat.{ℕ, zero, suc, ◌*◌, ◌≤◌, ◌<◌}
use native.Mathlib.Omega.{arith}
use lib.ListN.{get_elem?}
use Rattle.lists.specs.Rising.{Rising}
use Rattle.model.specs.Family.{Pairs, Family, has, family_number, family_of, families, WellFormed}
use Rattle.model.specs.FirstFit.{Placed, held, free, place, first_fit, number_at}
use Rattle.model.proofs.FamilyList.{families_rising}
use Rattle.model.proofs.PairNumbers.{placed_family, has_whole}

-- the family numbers fall strictly, the first below the limit
abbrev pub Falling : (limit : ℕ) → List Placed → Type 0
Falling limit [] = Unit {0}
Falling limit (g ∷ ps) = (family_number g.family < limit) × Falling (family_number g.family) ps

falling_wider : (m n : ℕ) (ps : List Placed) → m ≤ n → Falling m ps → Falling n ps
falling_wider m n [] h a = tt
falling_wider m n (g ∷ ps) h a = (omega (arith, a.0), a.1)

place_falling : (limit lo : ℕ) (fs : List Family) (ps : List Placed) → lo ≤ limit → Rising limit lo (map family_number fs) → Falling lo ps
    → Falling limit (place fs ps)
unfolding place
place_falling limit lo [] ps h r a = falling_wider lo limit ps h a
place_falling limit lo (f ∷ fs) ps h r a =
    place_falling limit (suc (family_number f)) fs (record { family = f; number = free (held f ps) } ∷ ps) r.0.1 r.1
    (omega arith, falling_wider lo (family_number f) ps r.0.0 a)

pub falling_below : (limit : ℕ) (ps : List Placed) (i : ℕ) {g : Placed} → Falling limit ps → get_elem? ps i ≡ some g → family_number g.family < limit
falling_below limit [] i a e = absurd (none-ne-some _ e)
falling_below limit (h ∷ ps) zero a e = rw (ap (λ (x : Placed). family_number x.family) (some-injective _ _ e)) at a.0
falling_below limit (h ∷ ps) (suc i) a e = omega (arith, a.0, falling_below (family_number h.family) ps i a.1 e)

module _ (q j : ℕ) (g : Placed) (its : has g.family q j ≡ true) where
  falling_number : (limit : ℕ) (ps : List Placed) → Falling limit ps → (i : ℕ) → get_elem? ps i ≡ some g
      → ((n : ℕ) (h : Placed) → get_elem? ps n ≡ some h → has h.family q j ≡ true → h.family ≡ g.family) → number_at ps q j ≡ some g.number
  unfolding number_at
  falling_number limit [] a i e one = absurd (none-ne-some _ e)
  falling_number limit (h ∷ ps) a zero e one =
      let s : h ≡ g = some-injective _ _ e in
      rw (ap (λ (x : Placed). has x.family q j) s ∙ its, number_at) (ap (λ (x : Placed). some x.number) s)
  falling_number limit (h ∷ ps) a (suc i) e one =
      go (has h.family q j) refl (falling_number (family_number h.family) ps a.1 i e (λ n. one (suc n)))
    where
      go : (b : Bool) → has h.family q j ≡ b → number_at ps q j ≡ some g.number → number_at (h ∷ ps) q j ≡ some g.number
      go true t ih = absurd (omega (arith, falling_below (family_number h.family) ps i a.1 e, ap family_number (one 0 h refl t)))
      go false t ih = rw (t, number_at) ih

module _ {p : Pairs} (formed : WellFormed p) where
  pub first_fit_falling : Falling (64 * p.locations) (first_fit p)
  unfolding first_fit
  first_fit_falling = place_falling (64 * p.locations) 0 (families p) [] (omega arith) (families_rising formed) tt

  -- the number of a pair is that of the placed family that has it
  pub placed_number : (q j i : ℕ) (g : Placed) → get_elem? (first_fit p) i ≡ some g → has g.family q j ≡ true
      → number_at (first_fit p) q j ≡ some g.number
  placed_number q j i g e its =
      falling_number q j g its (64 * p.locations) (first_fit p) first_fit_falling i e (λ n h x t. whole n h x t ∙ sym (whole i g e its))
    where
      whole : (n : ℕ) (h : Placed) → get_elem? (first_fit p) n ≡ some h → has h.family q j ≡ true → h.family ≡ family_of p q j
      whole n h x t = has_whole formed h.family q j (placed_family formed n h x) t
