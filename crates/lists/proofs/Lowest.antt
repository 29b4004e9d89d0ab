-- The lowest number that passes: it passes, nothing below it does, and only one number is such. Hard: the definition shifts its test by one at each
-- step, so the laws are shown for every test at once.
use mathlib.Core.Path.{◌≡◌, refl, ◌∙◌}
use mathlib.Core.Logic.{◌⊎◌, inl, inr}
use mathlib.Core.Bool.{Bool, true, false}
use Prim.Native.Nat.{ℕ, zero, suc, ◌≤◌, ◌<◌}
use native.Mathlib.Omega.{arith}
use Rattle.lists.specs.Lists.{lowest}
use Rattle.lists.proofs.Bools.{not_both, lt_or_le}

pub lowest_le : (f : ℕ → Bool) (n : ℕ) → lowest f n ≤ n
unfolding lowest
lowest_le f zero = omega arith
lowest_le f (suc n) = go (f 0) refl (lowest_le (λ i. f (suc i)) n)
  where
    go : (b : Bool) → f 0 ≡ b → lowest (λ i. f (suc i)) n ≤ n → lowest f (suc n) ≤ suc n
    go true e h = rw (e, lowest) (omega arith)
    go false e h = rw (e, lowest) (omega arith)

pub lowest_passes : (f : ℕ → Bool) (n : ℕ) → lowest f n < n → f (lowest f n) ≡ true
unfolding lowest
lowest_passes f zero h = absurd (omega arith)
lowest_passes f (suc n) h = go (f 0) refl (lowest_passes (λ i. f (suc i)) n)
  where
    go : (b : Bool) → f 0 ≡ b → (lowest (λ i. f (suc i)) n < n → f (suc (lowest (λ i. f (suc i)) n)) ≡ true) → f (lowest f (suc n)) ≡ true
    go true e ih = rw (e, lowest) e
    go false e ih = let h' : suc (lowest (λ i. f (suc i)) n) < suc n = rw (e, lowest) at h in rw (e, lowest) (ih (omega arith))

pub lowest_before : (f : ℕ → Bool) (n k : ℕ) → k < lowest f n → f k ≡ false
unfolding lowest
lowest_before f zero k h = absurd (omega arith)
lowest_before f (suc n) k h = go k (f 0) refl h (lowest_before (λ i. f (suc i)) n)
  where
    go : (k : ℕ) (b : Bool) → f 0 ≡ b → k < lowest f (suc n) → ((k : ℕ) → k < lowest (λ i. f (suc i)) n → f (suc k) ≡ false) → f k ≡ false
    go k true e h ih = absurd (omega (arith, rw (e, lowest) at h))
    go zero false e h ih = e
    go (suc k) false e h ih = let h' : suc k < suc (lowest (λ i. f (suc i)) n) = rw (e, lowest) at h in ih k (omega arith)

-- it is no higher than any number that passes
pub lowest_most : (f : ℕ → Bool) (n k : ℕ) → f k ≡ true → lowest f n ≤ k
lowest_most f n k t = go (lt_or_le k (lowest f n))
  where
    go : (k < lowest f n) ⊎ (lowest f n ≤ k) → lowest f n ≤ k
    go (inl h) = absurd (not_both t (lowest_before f n k h))
    go (inr h) = h

-- a number that passes, or is n, and before which none passes, is the lowest
pub lowest_is : (f : ℕ → Bool) (n m : ℕ) → m ≤ n → (m < n → f m ≡ true) → ((k : ℕ) → k < m → f k ≡ false) → lowest f n ≡ m
lowest_is f n m l t b = go (lt_or_le (lowest f n) m) (lt_or_le m (lowest f n))
  where
    go : (lowest f n < m) ⊎ (m ≤ lowest f n) → (m < lowest f n) ⊎ (lowest f n ≤ m) → lowest f n ≡ m
    go (inl h) y = absurd (not_both (lowest_passes f n (omega arith)) (b (lowest f n) h))
    go (inr h) (inl h') = absurd (not_both (t (omega (arith, lowest_le f n))) (lowest_before f n m h'))
    go (inr h) (inr h') = omega arith

-- the same test, the same number
pub lowest_same : (f g : ℕ → Bool) (n : ℕ) → ((k : ℕ) → k < n → f k ≡ g k) → lowest f n ≡ lowest g n
lowest_same f g n e =
    lowest_is f n (lowest g n) (lowest_le g n)
    (λ l. e (lowest g n) l ∙ lowest_passes g n l)
    (λ k l. e k (omega (arith, lowest_le g n)) ∙ lowest_before g n k l)
