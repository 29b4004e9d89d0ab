-- Lists of zeros, and of entries that are all 0.
use mathlib.Core.Path.{◌≡◌, refl, ap}
use mathlib.Core.Logic.{◌⊎◌, inl, inr}
use mathlib.Core.List.{List, ◌∷◌}
use Prim.Native.Nat.{ℕ, zero, suc, ◌≤◌, ◌<◌}
use native.Mathlib.Omega.{arith}
use lib.ListN.{length, get_or, take, replicate, get_or-eq_default}
use Rattle.lists.proofs.Bools.{lt_or_le}

pub get_d_zeros : (n q : ℕ) → ◌≡◌ {A = ℕ} (get_or (replicate n 0) q 0) 0
get_d_zeros zero q = refl
get_d_zeros (suc n) zero = refl
get_d_zeros (suc n) (suc q) = get_d_zeros n q

pub take_zeros : (n m : ℕ) → n ≤ m → ◌≡◌ {A = List ℕ} (take n (replicate m 0)) (replicate n 0)
take_zeros zero m h = refl
take_zeros (suc n) zero h = absurd (omega arith)
take_zeros (suc n) (suc m) h = ap (λ (l : List ℕ). 0 ∷ l) (take_zeros n m (omega arith))

-- a list that is 0 up to its length
pub all_zero : (l : List ℕ) (x : ℕ) → length l ≤ x → ((k : ℕ) → k < x → get_or l k 0 ≡ 0) → (k : ℕ) → get_or l k 0 ≡ 0
all_zero l x long below k = go (lt_or_le k x)
  where
    go : (k < x) ⊎ (x ≤ k) → get_or l k 0 ≡ 0
    go (inl h) = below k h
    go (inr h) = get_or-eq_default l 0 {n = k} (omega arith)
