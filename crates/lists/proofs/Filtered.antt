-- The elements of a filtered list. Each head passes or does not.
use mathlib.Core.Path.{◌≡◌, refl, ap, ◌∙◌}
use mathlib.Core.Bool.{Bool, true, false}
use mathlib.Core.Option.{some, some-injective, none-ne-some}
use mathlib.Core.List.{List, [], ◌∷◌}
use Prim.Native.Nat.{ℕ, zero, suc, ◌≤◌}
use native.Mathlib.Omega.{arith}
use lib.ListN.{length, get_elem?}
use Rattle.lists.specs.Lists.{filtered}
use Rattle.lists.specs.Rising.{All}

module _ {A : Type 0} (f : A → Bool) where
  pub filtered_yes : (x : A) (l : List A) → f x ≡ true → filtered f (x ∷ l) ≡ (x ∷ filtered f l)
  unfolding filtered
  filtered_yes x l e = rw (e, filtered) refl

  pub filtered_no : (x : A) (l : List A) → f x ≡ false → filtered f (x ∷ l) ≡ filtered f l
  unfolding filtered
  filtered_no x l e = rw (e, filtered) refl

  -- each element of the filtered list is one of the list, and passes
  pub filtered_from : (l : List A) (k : ℕ) (a : A) → get_elem? (filtered f l) k ≡ some a → (i : ℕ) × (get_elem? l i ≡ some a) × (f a ≡ true)
  unfolding filtered
  filtered_from [] k a e = absurd (none-ne-some _ e)
  filtered_from (x ∷ l) k a e = go (f x) refl k e (λ n. filtered_from l n a)
    where
      go : (b : Bool) → f x ≡ b → (k : ℕ) → get_elem? (filtered f (x ∷ l)) k ≡ some a
          → ((k : ℕ) → get_elem? (filtered f l) k ≡ some a → (i : ℕ) × (get_elem? l i ≡ some a) × (f a ≡ true))
          → (i : ℕ) × (get_elem? (x ∷ l) i ≡ some a) × (f a ≡ true)
      go true h zero e rest = let same = some-injective _ _ (rw (filtered_yes x l h) at e) in (0, ap some same, rw (← same) h)
      go true h (suc k) e rest = let y = rest k (rw (filtered_yes x l h) at e) in (suc y.0, y.1, y.2)
      go false h k e rest = let y = rest k (rw (filtered_no x l h) at e) in (suc y.0, y.1, y.2)

  -- and each element that passes is there
  pub filtered_into : (l : List A) (i : ℕ) {a : A} → get_elem? l i ≡ some a → f a ≡ true → (k : ℕ) × (get_elem? (filtered f l) k ≡ some a)
  filtered_into [] i e p = absurd (none-ne-some _ e)
  filtered_into (x ∷ l) zero e p = let same = some-injective _ _ e in (0, rw (filtered_yes x l (ap f same ∙ p)) e)
  filtered_into (x ∷ l) (suc i) {a} e p = go (f x) refl (filtered_into l i e p)
    where
      go : (b : Bool) → f x ≡ b → (k : ℕ) × (get_elem? (filtered f l) k ≡ some a) → (k : ℕ) × (get_elem? (filtered f (x ∷ l)) k ≡ some a)
      go true h y = (suc y.0, rw (filtered_yes x l h) y.1)
      go false h y = (y.0, rw (filtered_no x l h) y.1)

  pub filtered_all : (P : A → Type 0) (l : List A) → All P l → All P (filtered f l)
  unfolding filtered
  filtered_all P [] h = tt
  filtered_all P (x ∷ l) h = go (f x) refl (filtered_all P l h.1)
    where
      go : (b : Bool) → f x ≡ b → All P (filtered f l) → All P (filtered f (x ∷ l))
      go true e rest = rw (filtered_yes x l e) (h.0, rest)
      go false e rest = rw (filtered_no x l e) rest

  pub filtered_short : (l : List A) → length (filtered f l) ≤ length l
  unfolding filtered
  filtered_short [] = omega arith
  filtered_short (x ∷ l) = go (f x) refl (filtered_short l)
    where
      go : (b : Bool) → f x ≡ b → length (filtered f l) ≤ length l → length (filtered f (x ∷ l)) ≤ length (x ∷ l)
      go true e h = rw (filtered_yes x l e) (omega (arith, h))
      go false e h = rw (filtered_no x l e) (omega (arith, h))

  -- where all pass, all stay
  pub filtered_same : (l : List A) → ((i : ℕ) (a : A) → get_elem? l i ≡ some a → f a ≡ true) → filtered f l ≡ l
  unfolding filtered
  filtered_same [] h = refl
  filtered_same (x ∷ l) h = filtered_yes x l (h 0 x refl) ∙ ap (λ t. x ∷ t) (filtered_same l (λ i. h (suc i)))
