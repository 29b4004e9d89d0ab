-- What is in a list, which elements pass, the first that does, and the largest. Hard: only the first that passes, whose place depends on whether the
-- head passes; the rest are inductions along the list.
use mathlib.Core.Path.{◌≡◌, refl, sym, ap, ◌∙◌}
use mathlib.Core.Logic.{◌⊎◌, inl, inr}
use mathlib.Core.Bool.{Bool, true, false, ◌||◌, true≢false}
use mathlib.Core.Option.{none, some, some-injective, none-ne-some}
use mathlib.Core.List.{List, [], ◌∷◌, ◌++◌, map}
use Prim.Native.Nat.{ℕ, zero, suc, ◌<◌, ◌≤◌}
use native.Mathlib.Omega.{arith}
use lib.Dec.{ltb, eqb}
use lib.ListN.{length, get_elem?}
use borrow.Author.Tests.{eq-eqb, lt-ltb}
use Rattle.lists.specs.Lists.{memb, any_of, first_of, top}
use Rattle.lists.proofs.Bools.{or_cases, or_left, or_right, same_number, lt_or_le, not_both}

pub memb_cases : (k x : ℕ) (xs : List ℕ) → memb k (x ∷ xs) ≡ true → (k ≡ x) ⊎ (memb k xs ≡ true)
unfolding memb
memb_cases k x xs h = go (or_cases (eqb k x) h)
  where
    go : (eqb k x ≡ true) ⊎ (memb k xs ≡ true) → (k ≡ x) ⊎ (memb k xs ≡ true)
    go (inl e) = inl (same_number e)
    go (inr m) = inr m

pub memb_head : (k x : ℕ) (xs : List ℕ) → k ≡ x → memb k (x ∷ xs) ≡ true
unfolding memb
memb_head k x xs e = or_left (memb k xs) (eq-eqb k x e)

pub memb_tail : (k x : ℕ) (xs : List ℕ) → memb k xs ≡ true → memb k (x ∷ xs) ≡ true
unfolding memb
memb_tail k x xs h = or_right (eqb k x) h

pub memb_nil : (k : ℕ) → memb k [] ≡ true → ⊥
unfolding memb
memb_nil k h = true≢false (sym h)

pub memb_append : (k : ℕ) (xs ys : List ℕ) → memb k (xs ++ ys) ≡ (memb k xs || memb k ys)
unfolding memb
memb_append k [] ys = refl
memb_append k (x ∷ xs) ys = ap (λ (b : Bool). eqb k x || b) (memb_append k xs ys) ∙ assoc (eqb k x) (memb k xs) (memb k ys)
  where
    assoc : (a b c : Bool) → (a || (b || c)) ≡ ((a || b) || c)
    assoc true b c = refl
    assoc false b c = refl

-- ---- a list whose element at a place passes

module _ {A : Type 0} (f : A → Bool) where
  pub any_in : (l : List A) (i : ℕ) {a : A} → get_elem? l i ≡ some a → f a ≡ true → any_of f l ≡ true
  unfolding any_of
  any_in [] i e t = absurd (none-ne-some _ e)
  any_in (x ∷ l) zero e t = or_left (any_of f l) (ap f (some-injective _ _ e) ∙ t)
  any_in (x ∷ l) (suc i) e t = or_right (f x) (any_in l i e t)

  pub any_out : (l : List A) → any_of f l ≡ true → (i : ℕ) × (a : A) × (get_elem? l i ≡ some a) × (f a ≡ true)
  unfolding any_of
  any_out [] h = absurd (true≢false (sym h))
  any_out (x ∷ l) h = go (or_cases (f x) h) (any_out l)
    where
      go : (f x ≡ true) ⊎ (any_of f l ≡ true) → (any_of f l ≡ true → (i : ℕ) × (a : A) × (get_elem? l i ≡ some a) × (f a ≡ true))
          → (i : ℕ) × (a : A) × (get_elem? (x ∷ l) i ≡ some a) × (f a ≡ true)
      go (inl e) k = (0, x, refl, e)
      go (inr m) k = let y = k m in (suc y.0, y.1, y.2, y.3)

  -- the first that passes: where there is one, it passes at its place, and nothing before it does
  pub first_passes : (l : List A) → first_of f l < length l → (a : A) × (get_elem? l (first_of f l) ≡ some a) × (f a ≡ true)
  unfolding first_of
  first_passes [] h = absurd (omega arith)
  first_passes (x ∷ l) h = go (f x) refl (first_passes l)
    where
      go : (b : Bool) → f x ≡ b → (first_of f l < length l → (a : A) × (get_elem? l (first_of f l) ≡ some a) × (f a ≡ true))
          → (a : A) × (get_elem? (x ∷ l) (first_of f (x ∷ l)) ≡ some a) × (f a ≡ true)
      go true e ih = rw (e, first_of) (x, refl, e)
      go false e ih = let h' : suc (first_of f l) < suc (length l) = rw (e, first_of) at h in rw (e, first_of) (ih (omega arith))

  pub first_before : (l : List A) (i : ℕ) (a : A) → i < first_of f l → get_elem? l i ≡ some a → f a ≡ false
  unfolding first_of
  first_before [] i a h e = absurd (none-ne-some _ e)
  first_before (x ∷ l) i a h e = go i (f x) refl h e (λ (k : ℕ). first_before l k a)
    where
      go : (i : ℕ) (b : Bool) → f x ≡ b → i < first_of f (x ∷ l) → get_elem? (x ∷ l) i ≡ some a
          → ((k : ℕ) → k < first_of f l → get_elem? l k ≡ some a → f a ≡ false) → f a ≡ false
      go i true t h e ih = absurd (omega (arith, rw (t, first_of) at h))
      go zero false t h e ih = ap f (sym (some-injective _ _ e)) ∙ t
      go (suc i) false t h e ih = let h' : suc i < suc (first_of f l) = rw (t, first_of) at h in ih i (omega arith) e

  pub first_le : (l : List A) → first_of f l ≤ length l
  unfolding first_of
  first_le [] = omega arith
  first_le (x ∷ l) = go (f x) (first_le l)
    where
      go : (b : Bool) → first_of f l ≤ length l → elim b [ true ↦ 0 | false ↦ suc (first_of f l) ] ≤ suc (length l)
      go true h = omega arith
      go false h = omega arith

  -- what passes, or the end, before which nothing passes, is the first
  pub first_is : (l : List A) (m : ℕ) → m ≤ length l → ((a : A) → get_elem? l m ≡ some a → f a ≡ true)
      → ((k : ℕ) → k < m → (a : A) → get_elem? l k ≡ some a → f a ≡ false) → first_of f l ≡ m
  unfolding first_of
  first_is [] m h p b = omega arith
  first_is (x ∷ l) zero h p b = rw (p x refl, first_of) refl
  first_is (x ∷ l) (suc m) h p b = rw (b 0 (omega arith) x refl, first_of) (ap suc (first_is l m (omega arith) p (λ k d. b (suc k) (omega arith))))

-- ---- the same of numbers that are in the list

pub nth_memb : (l : List ℕ) (i : ℕ) {x : ℕ} → get_elem? l i ≡ some x → memb x l ≡ true
nth_memb [] i e = absurd (none-ne-some _ e)
nth_memb (y ∷ l) zero {x} e = memb_head x y l (sym (some-injective _ _ e))
nth_memb (y ∷ l) (suc i) {x} e = memb_tail x y l (nth_memb l i e)

pub memb_nth : (l : List ℕ) (x : ℕ) → memb x l ≡ true → (i : ℕ) × (get_elem? l i ≡ some x)
memb_nth [] x m = absurd (memb_nil x m)
memb_nth (y ∷ l) x m = go (memb_cases x y l m) (memb_nth l x)
  where
    go : (x ≡ y) ⊎ (memb x l ≡ true) → (memb x l ≡ true → (i : ℕ) × (get_elem? l i ≡ some x)) → (i : ℕ) × (get_elem? (y ∷ l) i ≡ some x)
    go (inl e) k = (0, ap some (sym e))
    go (inr n) k = let r = k n in (suc r.0, r.1)

pub any_memb_in : (f : ℕ → Bool) (x : ℕ) (l : List ℕ) → memb x l ≡ true → f x ≡ true → any_of f l ≡ true
any_memb_in f x l m t = any_in f l (memb_nth l x m).0 (memb_nth l x m).1 t

pub any_memb_out : (f : ℕ → Bool) (l : List ℕ) → any_of f l ≡ true → (x : ℕ) × (memb x l ≡ true) × (f x ≡ true)
any_memb_out f l h = let r = any_out f l h in (r.1, nth_memb l r.0 r.2, r.3)

-- what is in a list none of which is below b
pub memb_least : (b n : ℕ) (l : List ℕ) → any_of (λ x. ltb x b) l ≡ false → memb n l ≡ true → b ≤ n
memb_least b n l high m = go (lt_or_le n b)
  where
    go : (n < b) ⊎ (b ≤ n) → b ≤ n
    go (inl h) = absurd (not_both (any_memb_in (λ x. ltb x b) n l m (lt-ltb n b h)) high)
    go (inr h) = h

-- ---- one more than the largest

pub top_above : (l : List ℕ) (k : ℕ) → memb k l ≡ true → k < top l
unfolding top
top_above [] k m = absurd (memb_nil k m)
top_above (x ∷ l) k m = go (memb_cases k x l m) (top_above l k)
  where
    go : (k ≡ x) ⊎ (memb k l ≡ true) → (memb k l ≡ true → k < top l) → k < top (x ∷ l)
    go (inl e) h = unfold top in omega arith
    go (inr n) h = let h' : k < top l = h n in unfold top in omega arith

-- a number below it has one in the list that is at least as large
pub top_below : (l : List ℕ) (k : ℕ) → k < top l → (x : ℕ) × (memb x l ≡ true) × (k ≤ x)
unfolding top
top_below [] k h = absurd (omega arith)
top_below (x ∷ l) k h = go (lt_or_le k (suc x)) (top_below l k)
  where
    go : (k < suc x) ⊎ (suc x ≤ k) → (k < top l → (x : ℕ) × (memb x l ≡ true) × (k ≤ x)) → (y : ℕ) × (memb y (x ∷ l) ≡ true) × (k ≤ y)
    go (inl b) f = (x, memb_head x x l refl, omega arith)
    go (inr b) f = let r = f (unfold top in omega arith) in (r.0, memb_tail r.0 x l r.1, r.2)

-- ---- an element of a mapped list is the image of the element in its place

module _ {A B : Type 0} (f : A → B) where
  pub nth_map : (l : List A) (i : ℕ) {a : A} → get_elem? l i ≡ some a → get_elem? (map f l) i ≡ some (f a)
  nth_map [] i e = absurd (none-ne-some _ e)
  nth_map (x ∷ l) zero e = ap (λ (a : A). some (f a)) (some-injective _ _ e)
  nth_map (x ∷ l) (suc i) e = nth_map l i e

  pub nth_none : (l : List A) (i : ℕ) → get_elem? l i ≡ none → get_elem? (map f l) i ≡ none
  nth_none [] i e = refl
  nth_none (x ∷ l) zero e = absurd (none-ne-some _ (sym e))
  nth_none (x ∷ l) (suc i) e = nth_none l i e

  pub nth_unmap : (l : List A) (i : ℕ) {b : B} → get_elem? (map f l) i ≡ some b → (a : A) × (get_elem? l i ≡ some a) × (f a ≡ b)
  nth_unmap [] i e = absurd (none-ne-some _ e)
  nth_unmap (x ∷ l) zero e = (x, refl, some-injective _ _ e)
  nth_unmap (x ∷ l) (suc i) e = nth_unmap l i e

module _ (f : ℕ → ℕ) where
  pub memb_map_in : (l : List ℕ) (j : ℕ) → memb j l ≡ true → memb (f j) (map f l) ≡ true
  memb_map_in l j m = let n = memb_nth l j m in nth_memb (map f l) n.0 (nth_map f l n.0 n.1)

  pub memb_map_out : (l : List ℕ) (k : ℕ) → memb k (map f l) ≡ true → (j : ℕ) × (memb j l ≡ true) × (f j ≡ k)
  memb_map_out l k m =
      let n = memb_nth (map f l) k m in
      let x = nth_unmap f l n.0 n.1 in
      (x.0, nth_memb l n.0 x.1, x.2)
