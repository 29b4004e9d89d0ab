-- Lists made of what the numbers below n give: their lengths and entries, which numbers pass, and that these rise. Hard: the lists grow at their end,
-- so each law tells the last number from those before it.
use mathlib.Core.Path.{◌≡◌, refl, sym, ap, ◌∙◌}
use mathlib.Core.Logic.{◌⊎◌, inl, inr}
use mathlib.Core.Bool.{Bool, true, false, ◌||◌}
use mathlib.Core.List.{List, [], ◌∷◌, ◌++◌}
use Prim.Native.Nat.{ℕ, zero, suc, ◌+◌, ◌≤◌, ◌<◌}
use native.Mathlib.Decide.{ℕ_discrete}
use native.Mathlib.Omega.{arith}
use native.Mathlib.Numerals.{add-one}
use lib.ListN.{length, get_or, length-append, get_or-append}
use lib.Seq.{get_or_at}
use Rattle.lists.specs.Lists.{memb, gather, up_to, pick}
use Rattle.lists.specs.Rising.{Rising}
use Rattle.lists.proofs.Bools.{or_cases, or_left, or_right}
use Rattle.lists.proofs.Membership.{memb_append, memb_cases, memb_head, memb_nil}

-- ---- f 0, f 1, ..

module _ {A : Type 0} (f : ℕ → A) where
  pub length_up_to : (n : ℕ) → length (up_to f n) ≡ n
  unfolding up_to gather
  length_up_to zero = refl
  length_up_to (suc n) = rw (length-append, length_up_to n) (add-one n)

  pub get_d_up_to : (n i : ℕ) (d : A) → i < n → get_or (up_to f n) i d ≡ f i
  unfolding up_to gather
  get_d_up_to zero i d h = absurd (omega arith)
  get_d_up_to (suc n) i d h = go (ℕ_discrete i n) (get_d_up_to n i d)
    where
      go : Dec (i ≡ n) → (i < n → get_or (up_to f n) i d ≡ f i) → get_or (up_to f n ++ (f n ∷ [])) i d ≡ f i
      go (yes e) ih = rw e (get_or_at (up_to f n) (f n) [] d n (length_up_to n))
      go (no ne) ih = get_or-append (up_to f n) (f n ∷ []) d i (omega (arith, length_up_to n)) ∙ ih (omega arith)

-- ---- numbers that pass

module _ (f : ℕ → Bool) where
  pub pick_in : (n k : ℕ) → k < n → f k ≡ true → memb k (pick f n) ≡ true
  unfolding pick gather
  pick_in zero k h t = absurd (omega arith)
  pick_in (suc n) k h t = rw memb_append (go (ℕ_discrete k n) (pick_in n k))
    where
      last : k ≡ n → memb k (elim (f n) [ true ↦ n ∷ [] | false ↦ [] ]) ≡ true
      last e = rw (ap f (sym e) ∙ t) (memb_head k n [] e)

      go : Dec (k ≡ n) → (k < n → f k ≡ true → memb k (pick f n) ≡ true)
          → (memb k (pick f n) || memb k (elim (f n) [ true ↦ n ∷ [] | false ↦ [] ])) ≡ true
      go (yes e) ih = or_right (memb k (pick f n)) (last e)
      go (no ne) ih = or_left (memb k (elim (f n) [ true ↦ n ∷ [] | false ↦ [] ])) (ih (omega arith) t)

  pub pick_out : (n k : ℕ) → memb k (pick f n) ≡ true → (k < n) × (f k ≡ true)
  unfolding pick gather
  pick_out zero k m = absurd (memb_nil k m)
  pick_out (suc n) k m = go (or_cases (memb k (pick f n)) (rw memb_append at m)) (pick_out n k)
    where
      last : (b : Bool) → f n ≡ b → memb k (elim b [ true ↦ n ∷ [] | false ↦ [] ]) ≡ true → (k < suc n) × (f k ≡ true)
      last true e h = one (memb_cases k n [] h)
        where
          one : (k ≡ n) ⊎ (memb k [] ≡ true) → (k < suc n) × (f k ≡ true)
          one (inl p) = (omega arith, ap f p ∙ e)
          one (inr x) = absurd (memb_nil k x)
      last false e h = absurd (memb_nil k h)

      go : (memb k (pick f n) ≡ true) ⊎ (memb k (elim (f n) [ true ↦ n ∷ [] | false ↦ [] ]) ≡ true)
          → (memb k (pick f n) ≡ true → (k < n) × (f k ≡ true)) → (k < suc n) × (f k ≡ true)
      go (inl h) ih = let r = ih h in (omega (arith, r.0), r.1)
      go (inr h) ih = last (f n) refl h

pub rising_append : (limit lo mid : ℕ) (xs ys : List ℕ) → Rising mid lo xs → mid ≤ limit → lo ≤ mid → Rising limit mid ys → Rising limit lo (xs ++ ys)
rising_append limit lo mid [] [] a h l b = tt
rising_append limit lo mid [] (y ∷ ys) a h l b = ((omega (arith, b.0.0), b.0.1), b.1)
rising_append limit lo mid (x ∷ xs) ys a h l b =
    ((a.0.0, omega (arith, a.0.1)), rising_append limit (suc x) mid xs ys a.1 h (omega (arith, a.0.1)) b)

-- they rise
pub pick_rising : (f : ℕ → Bool) (n : ℕ) → Rising n 0 (pick f n)
unfolding pick gather
pick_rising f zero = tt
pick_rising f (suc n) = rising_append (suc n) 0 n (pick f n) _ (pick_rising f n) (omega arith) (omega arith) (last (f n))
  where
    last : (b : Bool) → Rising (suc n) n (elim b [ true ↦ n ∷ [] | false ↦ [] ])
    last true = ((omega arith, omega arith), tt)
    last false = tt

pub up_to_rising : (n : ℕ) → Rising n 0 (up_to (λ i. i) n)
unfolding up_to gather
up_to_rising zero = tt
up_to_rising (suc n) =
    rising_append (suc n) 0 n (up_to (λ i. i) n) (n ∷ []) (up_to_rising n) (omega arith) (omega arith) ((omega arith, omega arith), tt)

-- a rising list is no longer than the room that it has
pub rising_length : (limit lo : ℕ) (xs : List ℕ) → Rising limit lo xs → lo ≤ limit → lo + length xs ≤ limit
rising_length limit lo [] r h = omega arith
rising_length limit lo (x ∷ xs) r h = omega (arith, r.0.0, r.0.1, rising_length limit (suc x) xs r.1 (omega (arith, r.0.1)))

-- what is in it is below the limit
pub rising_below : (limit lo : ℕ) (xs : List ℕ) → Rising limit lo xs → (k : ℕ) → memb k xs ≡ true → (lo ≤ k) × (k < limit)
rising_below limit lo [] r k m = absurd (memb_nil k m)
rising_below limit lo (x ∷ xs) r k m = go (memb_cases k x xs m) (rising_below limit (suc x) xs r.1 k)
  where
    go : (k ≡ x) ⊎ (memb k xs ≡ true) → (memb k xs ≡ true → (suc x ≤ k) × (k < limit)) → (lo ≤ k) × (k < limit)
    go (inl e) ih = (omega (arith, r.0.0), omega (arith, r.0.1))
    go (inr n) ih = let y = ih n in (omega (arith, y.0, r.0.0), y.1)
