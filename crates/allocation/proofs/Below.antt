-- Some number below another passes, and some location of a family does.
use mathlib.Core.Path.{◌≡◌, sym, ap, ◌∙◌}
use mathlib.Core.Logic.{◌⊎◌, inl, inr}
use mathlib.Core.Bool.{Bool, true, false, ◌||◌, true≢false, or-false}
use mathlib.Core.List.{List}
use Prim.Native.Nat.{ℕ, zero, suc, ◌+◌, ◌<◌}
use native.Mathlib.Numerals.{add-one}
use native.Mathlib.Decide.{ℕ_discrete}
use native.Mathlib.Omega.{arith}
use lib.ListN.{length}
use Rattle.lists.proofs.Bools.{same_bool, is_no, or_cases, or_left, or_right, and_left, and_right, and_both}
use Rattle.allocation.specs.declared.family.Family.{Family}
use Rattle.allocation.specs.Rows.{any_below, in_family, some_in, Within}

pub below_in : (f : ℕ → Bool) (n k : ℕ) → k < n → f k ≡ true → any_below f n ≡ true
unfolding any_below
below_in f zero k h t = absurd (omega arith)
below_in f (suc n) k h t = go (ℕ_discrete k n) (below_in f n k)
  where
    go : Dec (k ≡ n) → (k < n → f k ≡ true → any_below f n ≡ true) → (any_below f n || f n) ≡ true
    go (yes e) ih = or_right (any_below f n) (ap f (sym e) ∙ t)
    go (no ne) ih = or_left (f n) (ih (omega arith) t)

pub below_out : (f : ℕ → Bool) (n : ℕ) → any_below f n ≡ true → (k : ℕ) × (k < n) × (f k ≡ true)
unfolding any_below
below_out f zero h = absurd (true≢false (sym h))
below_out f (suc n) h = go (or_cases (any_below f n) h) (below_out f n)
  where
    go : (any_below f n ≡ true) ⊎ (f n ≡ true) → (any_below f n ≡ true → (k : ℕ) × (k < n) × (f k ≡ true)) → (k : ℕ) × (k < suc n) × (f k ≡ true)
    go (inl a) ih = let r = ih a in (r.0, omega (arith, r.1), r.2)
    go (inr b) ih = (n, omega arith, b)

-- ---- locations of a family

pub within : (f : Family) → Within f.sets.now f.timer f.from f.end
within f = record { low = f.low; high = f.high; ordered = f.ordered; inside = f.inside }

module _ (sets : List ℕ) (j : ℕ) (f : ℕ → Bool) where
  pub some_in_lem : (n s : ℕ) → s < n → in_family sets j s ≡ true → f s ≡ true → some_in sets j f n ≡ true
  unfolding some_in
  some_in_lem n s h t u = below_in _ n s h (and_both t u)

  pub some_out : (n : ℕ) → some_in sets j f n ≡ true → (s : ℕ) × (s < n) × (in_family sets j s ≡ true) × (f s ≡ true)
  unfolding some_in
  some_out n h = let s = below_out _ n h in (s.0, s.1, and_left (in_family sets j s.0) _ s.2, and_right (in_family sets j s.0) _ s.2)

  module _ (s : ℕ) where
    pub some_yes : in_family sets j s ≡ true → (some_in sets j f s || f s) ≡ some_in sets j f (s + 1)
    unfolding some_in any_below
    some_yes e = rw (add-one, e)

    pub some_no : in_family sets j s ≡ false → some_in sets j f s ≡ some_in sets j f (s + 1)
    unfolding some_in any_below
    some_no e = rw (add-one, e) (sym (or-false _))

  -- only those between two bounds count
  module _ {from end : ℕ} (w : Within sets j from end) where
    pub some_none : some_in sets j f from ≡ false
    some_none = is_no _ (λ h. let s = some_out from h in omega (arith, s.1, w.low s.0 s.2))

    pub some_all : some_in sets j f end ≡ some_in sets j f (length sets)
    some_all = same_bool _ _
        (λ h. let s = some_out end h in some_in_lem (length sets) s.0 (omega (arith, s.1, w.inside)) s.2 s.3)
        (λ h. let s = some_out (length sets) h in some_in_lem end s.0 (w.high s.0 s.2) s.2 s.3)
