-- Gathered lists, one item more at a time: how they grow, and how long they are.
use mathlib.Core.Path.{◌≡◌, sym}
use mathlib.Core.Logic.{◌⊎◌, inl, inr}
use mathlib.Core.List.{List, ◌++◌, append_assoc, append-nil}
use Prim.Native.Nat.{ℕ, zero, suc, ◌+◌, ◌*◌, ◌≤◌, ◌<◌}
use native.Mathlib.Nat.{mul-suc}
use native.Mathlib.Numerals.{add-one}
use native.Mathlib.Omega.{arith}
use lib.ListN.{length, length-append}
use Rattle.lists.specs.Lists.{gather}
use Rattle.lists.proofs.Bools.{lt_or_le}

module _ {A : Type 0} (item : ℕ → List A) where
  -- as the code counts
  pub gather_next : (k : ℕ) → gather item (k + 1) ≡ gather item k ++ item k
  unfolding gather
  gather_next k = rw add-one

  pub gather_first : (n : ℕ) → gather item (suc n) ≡ item 0 ++ gather (λ i. item (suc i)) n
  unfolding gather
  gather_first zero = sym (append-nil (item 0))
  gather_first (suc n) = rw (gather_first n) (append_assoc (item 0) (gather (λ i. item (suc i)) n) (item (suc n)))

  -- more items, no shorter a list
  pub gather_mono : (k n : ℕ) → k ≤ n → length (gather item k) ≤ length (gather item n)
  unfolding gather
  gather_mono k zero h = let e : k ≡ 0 = omega arith in rw e (omega arith)
  gather_mono k (suc n) h = go (lt_or_le n k) (gather_mono k n)
    where
      go : (n < k) ⊎ (k ≤ n) → (k ≤ n → length (gather item k) ≤ length (gather item n))
          → length (gather item k) ≤ length (gather item n ++ item n)
      go (inl l) ih = let e : k ≡ suc n = omega arith in rw (e, gather) (omega arith)
      go (inr l) ih = rw length-append (omega (arith, ih l))

  -- items that are all equally long
  pub gather_length : (w : ℕ) → ((i : ℕ) → length (item i) ≡ w) → (n : ℕ) → length (gather item n) ≡ w * n
  unfolding gather
  gather_length w even zero = omega arith
  gather_length w even (suc n) = rw (length-append, gather_length w even n, even n, mul-suc) (omega arith)
