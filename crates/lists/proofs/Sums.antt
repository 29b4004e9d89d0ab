-- The sum of a list: of one with another entry, of one that is nowhere higher, of words, and of what elements give. Hard: a list that is nowhere
-- higher and differs has a smaller sum, by cases at its head.
use mathlib.Core.Path.{◌≡◌, refl, sym, ap, ap₂}
use mathlib.Core.Logic.{◌⊎◌, inl, inr}
use mathlib.Core.List.{List, [], ◌∷◌, map}
use Prim.Native.Nat.{ℕ, zero, suc, ◌+◌, ◌*◌, ◌^◌, ◌≤◌, ◌<◌}
use native.Mathlib.Nat.{suc_inj, suc-ne-zero, mul-suc}
use native.Mathlib.Decide.{ℕ_discrete}
use native.Mathlib.Omega.{arith}
use lib.ListN.{length, get_or, set, replicate}
use Rattle.lists.specs.Lists.{sum_of}
use Rattle.lists.specs.Rising.{All}

pub sum_set : (l : List ℕ) (q v : ℕ) → q < length l → sum_of (set l q v) + get_or l q 0 ≡ sum_of l + v
unfolding sum_of
sum_set [] q v h = absurd (omega arith)
sum_set (x ∷ xs) zero v h = omega arith
sum_set (x ∷ xs) (suc q) v h = omega (arith, sum_set xs q v (omega arith))

pub sum_ones : (n : ℕ) → sum_of (replicate n 1) ≡ n
unfolding sum_of
sum_ones zero = refl
sum_ones (suc n) = omega (arith, sum_ones n)

-- a list that is nowhere higher is equal or has a smaller sum
pub sum_less : (a b : List ℕ) → length a ≡ length b → ((x : ℕ) → get_or a x 0 ≤ get_or b x 0) → (a ≡ b) ⊎ (sum_of a < sum_of b)
unfolding sum_of
sum_less [] [] e u = inl refl
sum_less [] (y ∷ ys) e u = absurd (suc-ne-zero (length ys) (sym e))
sum_less (x ∷ xs) [] e u = absurd (suc-ne-zero (length xs) e)
sum_less (x ∷ xs) (y ∷ ys) e u = go (ℕ_discrete x y) (sum_less xs ys (suc_inj e) (λ i. u (suc i)))
  where
    first : x ≤ y
    first = u 0

    go : Dec (x ≡ y) → (xs ≡ ys) ⊎ (sum_of xs < sum_of ys) → (x ∷ xs ≡ y ∷ ys) ⊎ (x + sum_of xs < y + sum_of ys)
    go (yes p) (inl q) = inl (ap₂ ◌∷◌ p q)
    go (yes p) (inr q) = inr (omega arith)
    go (no p) (inl q) = inr (omega (arith, first, ap sum_of q))
    go (no p) (inr q) = inr (omega (arith, first))

pub sum_small : (l : List ℕ) → ((x : ℕ) → get_or l x 0 < 2 ^ 64) → sum_of l ≤ 2 ^ 64 * length l
unfolding sum_of
sum_small [] h = omega arith
sum_small (x ∷ xs) h = let first : x < 2 ^ 64 = h 0 in omega (arith, first, sum_small xs (λ i. h (suc i)))

-- ---- the sum of what the elements give

module _ {A : Type 0} (f : A → ℕ) where
  -- n for each element
  pub sum_same : (n : ℕ) → ((a : A) → f a ≡ n) → (xs : List A) → sum_of (map f xs) ≡ n * length xs
  unfolding sum_of
  sum_same n h [] = omega arith
  sum_same n h (a ∷ xs) = rw mul-suc (omega (arith, h a, sum_same n h xs))

  -- of n times one element
  pub sum_replicate : (a : A) (n : ℕ) → sum_of (map f (replicate n a)) ≡ n * f a
  unfolding sum_of
  sum_replicate a zero = omega arith
  sum_replicate a (suc n) = omega (arith, sum_replicate a n)

  -- at most n for each element
  pub sum_most : (n : ℕ) (P : A → Type 0) → ((a : A) → P a → f a ≤ n) → (xs : List A) → All P xs → sum_of (map f xs) ≤ n * length xs
  unfolding sum_of
  sum_most n P h [] p = omega arith
  sum_most n P h (a ∷ xs) p = rw mul-suc (omega (arith, h a p.0, sum_most n P h xs p.1))
