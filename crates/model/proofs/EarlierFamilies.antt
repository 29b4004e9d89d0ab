-- First fit by family numbers: of two placed families the earlier one is that with the lower number, so no family of a lower number that a family
-- meets has its number, and every smaller number is held by such a one.
use mathlib.Core.Path.{◌≡◌, ap, ◌∙◌}
use mathlib.Core.Bool.{true}
use mathlib.Core.Option.{some, none-ne-some, some-injective}
use mathlib.Core.List.{List, [], ◌∷◌}
use Prim.Native.Nat.{ℕ, zero, suc, ◌<◌}
use native.Mathlib.Omega.{arith}
use lib.ListN.{get_elem?}
use Rattle.lists.proofs.Bools.{not_both}
use Rattle.model.specs.Family.{family_number, meets}
use Rattle.model.specs.FirstFit.{Placed, held, free}
use Rattle.model.specs.Placing.{HeldBy}
use Rattle.model.proofs.FirstFit.{Fitted, free_not_held, free_least, held_in, held_out, later}
use Rattle.model.proofs.PlacedOnce.{Falling, falling_below}

-- a family of the list with a lower number than g, which g meets, holds k
pub record HeldLower (ps : List Placed) (g : Placed) (k : ℕ) : Type 0 where
  pub by : HeldBy g.family k ps
  pub lower : family_number by.holder.family < family_number g.family

same_number : {x g : Placed} → some x ≡ some g → family_number x.family ≡ family_number g.family
same_number e = ap (λ (y : Placed). family_number y.family) (some-injective _ _ e)

first_number : {x g : Placed} (ps : List Placed) → Fitted (x ∷ ps) → some x ≡ some g → g.number ≡ free (held g.family ps)
first_number ps fit e = rw (some-injective _ _ e) at fit.0

pub lower_free : (limit : ℕ) (ps : List Placed) → Falling limit ps → Fitted ps → (n m : ℕ) {g h : Placed} → get_elem? ps n ≡ some g
    → get_elem? ps m ≡ some h → family_number h.family < family_number g.family → meets g.family h.family ≡ true → h.number ≡ g.number → ⊥
lower_free limit [] a fit n m e e' l t s = absurd (none-ne-some _ e)
lower_free limit (x ∷ ps) a fit zero zero e e' l t s = omega (arith, same_number e, same_number e')
lower_free limit (x ∷ ps) a fit zero (suc m) {g} {h} e e' l t s =
    not_both (held_in g.family ps m h e' t) (rw (s ∙ first_number ps fit e) (free_not_held (held g.family ps)))
lower_free limit (x ∷ ps) a fit (suc n) zero e e' l t s = omega (arith, falling_below _ ps n a.1 e, same_number e')
lower_free limit (x ∷ ps) a fit (suc n) (suc m) e e' l t s = lower_free (family_number x.family) ps a.1 fit.1 n m e e' l t s

pub lower_holds : (limit : ℕ) (ps : List Placed) → Falling limit ps → Fitted ps → (n : ℕ) {g : Placed} → get_elem? ps n ≡ some g
    → (k : ℕ) → k < g.number → HeldLower ps g k
lower_holds limit [] a fit n e k l = absurd (none-ne-some _ e)
lower_holds limit (x ∷ ps) a fit zero {g} e k l =
    let b = held_out g.family k ps (free_least (held g.family ps) k (rw (first_number ps fit e) at l)) in
    record { by = later g.family b; lower = omega (arith, falling_below _ ps b.place a.1 b.is_nth, same_number e) }
lower_holds limit (x ∷ ps) a fit (suc n) {g} e k l =
    let b = lower_holds (family_number x.family) ps a.1 fit.1 n e k l in
    record { by = later g.family b.by; lower = b.lower }
