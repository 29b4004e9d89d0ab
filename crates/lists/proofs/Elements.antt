-- Elements by their places in joined, reversed and gathered lists, numbers that a gathered list has rising, and what is in a filtered list. Hard: a
-- gathered list grows at its end, so an element stands in the last part or, by induction, in the parts before it.
use mathlib.Core.Path.{◌≡◌, refl, sym, ap, ◌∙◌, subst}
use mathlib.Core.Logic.{◌⊎◌, inl, inr}
use mathlib.Core.Bool.{true}
use mathlib.Core.Option.{Option, none, some, none-ne-some, some-injective}
use mathlib.Core.List.{List, [], ◌∷◌, ◌++◌, map, map-append, filter_map, filter_map-cons-none, filter_map-cons-some, reverse, reverse-cons}
use Prim.Native.Nat.{ℕ, zero, suc, ◌≤◌, ◌<◌}
use native.Mathlib.Decide.{ℕ_discrete}
use native.Mathlib.Omega.{arith}
use lib.ListN.{get_elem?}
use Rattle.lists.specs.Lists.{memb, gather}
use Rattle.lists.specs.Rising.{Rising, All}
use Rattle.lists.specs.Elements.{Element}
use Rattle.lists.proofs.Membership.{memb_cases, memb_head, memb_tail, memb_nil}
use Rattle.lists.proofs.Gather.{rising_append}

module _ {A : Type 0} where
  element_later : {x a : A} {l : List A} → Element l a → Element (x ∷ l) a
  element_later e = record { place = suc e.place; is_nth = e.is_nth }

  pub element_left : (l m : List A) (i : ℕ) {a : A} → get_elem? l i ≡ some a → Element (l ++ m) a
  element_left [] m i e = absurd (none-ne-some _ e)
  element_left (x ∷ l) m zero e = record { place = 0; is_nth = e }
  element_left (x ∷ l) m (suc i) e = element_later (element_left l m i e)

  pub element_right : (l m : List A) {a : A} → Element m a → Element (l ++ m) a
  element_right [] m e = e
  element_right (x ∷ l) m e = element_later (element_right l m e)

  pub element_cases : (l m : List A) (i : ℕ) {a : A} → get_elem? (l ++ m) i ≡ some a → Element l a ⊎ Element m a
  element_cases [] m i e = inr (record { place = i; is_nth = e })
  element_cases (x ∷ l) m zero e = inl (record { place = 0; is_nth = e })
  element_cases (x ∷ l) m (suc i) {a} e = go (element_cases l m i e)
    where
      go : Element l a ⊎ Element m a → Element (x ∷ l) a ⊎ Element m a
      go (inl h) = inl (element_later h)
      go (inr h) = inr h

  -- ---- a list from its end

  pub in_reversed : (l : List A) (i : ℕ) {a : A} → get_elem? l i ≡ some a → Element (reverse l) a
  in_reversed [] i e = absurd (none-ne-some _ e)
  in_reversed (x ∷ l) zero e = rw (reverse-cons x l) (element_right (reverse l) (x ∷ []) (record { place = 0; is_nth = e }))
  in_reversed (x ∷ l) (suc i) e =
      let r = in_reversed l i e in
      rw (reverse-cons x l) (element_left (reverse l) (x ∷ []) r.place r.is_nth)

  pub from_reversed : (l : List A) (i : ℕ) {a : A} → get_elem? (reverse l) i ≡ some a → Element l a
  from_reversed [] i e = absurd (none-ne-some _ e)
  from_reversed (x ∷ l) i {a} e = go (element_cases (reverse l) (x ∷ []) i (rw (reverse-cons x l) at e)) (λ y. from_reversed l y.place y.is_nth)
    where
      go : Element (reverse l) a ⊎ Element (x ∷ []) a → (Element (reverse l) a → Element l a) → Element (x ∷ l) a
      go (inl y) ih = element_later (ih y)
      go (inr y) ih = element_left (x ∷ []) l y.place y.is_nth

  -- what each element has, all have
  pub all_elements : (P : A → Type 0) (l : List A) → ((a : A) → Element l a → P a) → All P l
  all_elements P [] h = tt
  all_elements P (x ∷ l) h = (h x (record { place = 0; is_nth = refl }), all_elements P l (λ a e. h a (element_later e)))

  -- ---- gathered lists

  module _ (f : ℕ → List A) where
    -- a is an element of one of the lists f 0, f 1, .. below n
    pub record Gathered (n : ℕ) (a : A) : Type 0 where
      pub number : ℕ
      pub below : number < n
      pub element : Element (f number) a

    pub gather_in : (n k : ℕ) {a : A} → k < n → Element (f k) a → Element (gather f n) a
    unfolding gather
    gather_in zero k h e = absurd (omega arith)
    gather_in (suc n) k {a} h e = go (ℕ_discrete k n) (λ (l : k < n). gather_in n k l e)
      where
        go : Dec (k ≡ n) → (k < n → Element (gather f n) a) → Element (gather f n ++ f n) a
        go (yes p) ih = element_right (gather f n) (f n) (subst (λ (x : ℕ). Element (f x) a) p e)
        go (no d) ih = let r = ih (omega arith) in element_left (gather f n) (f n) r.place r.is_nth

    pub gather_out : (n i : ℕ) {a : A} → get_elem? (gather f n) i ≡ some a → Gathered n a
    unfolding gather
    gather_out zero i e = absurd (none-ne-some _ e)
    gather_out (suc n) i {a} e = go (element_cases (gather f n) (f n) i e) (λ (k : ℕ). gather_out n k)
      where
        more : Gathered n a → Gathered (suc n) a
        more g = record { number = g.number; below = omega (arith, g.below); element = g.element }

        go : Element (gather f n) a ⊎ Element (f n) a → ((k : ℕ) → get_elem? (gather f n) k ≡ some a → Gathered n a) → Gathered (suc n) a
        go (inl h) ih = more (ih h.place h.is_nth)
        go (inr h) ih = record { number = n; below = omega arith; element = h }

    -- if each list's numbers rise from one bound to the next, so do those of the whole
    pub gather_rising : (h : A → ℕ) (bound : ℕ → ℕ) → ((k : ℕ) → bound k ≤ bound (suc k)) → ((k : ℕ) → Rising (bound (suc k)) (bound k) (map h (f k)))
        → (n : ℕ) → (bound 0 ≤ bound n) × Rising (bound n) (bound 0) (map h (gather f n))
    unfolding gather
    gather_rising h bound up each zero = (omega arith, tt)
    gather_rising h bound up each (suc n) = let ih = gather_rising h bound up each n in (
      omega (arith, ih.0, up n),
      rw map-append (rising_append (bound (suc n)) (bound 0) (bound n) (map h (gather f n)) (map h (f n)) ih.1 (up n) ih.0 (each n)),
    )

-- wider bounds do as well
pub rising_wider : (limit limit' lo lo' : ℕ) (xs : List ℕ) → Rising limit lo xs → limit ≤ limit' → lo' ≤ lo → Rising limit' lo' xs
rising_wider limit limit' lo lo' [] r h l = tt
rising_wider limit limit' lo lo' (x ∷ xs) r h l =
    ((omega (arith, r.0.0), omega (arith, r.0.1)), rising_wider limit limit' (suc x) (suc x) xs r.1 h (omega arith))

-- ---- filtered lists

module _ (f : ℕ → Option ℕ) where
  pub filter_in : (l : List ℕ) (j k : ℕ) → memb j l ≡ true → f j ≡ some k → memb k (filter_map f l) ≡ true
  filter_in [] j k m e = absurd (memb_nil j m)
  filter_in (x ∷ l) j k m e = go (f x) refl (memb_cases j x l m) (λ (n : memb j l ≡ true). filter_in l j k n e)
    where
      go : (o : Option ℕ) → f x ≡ o → (j ≡ x) ⊎ (memb j l ≡ true) → (memb j l ≡ true → memb k (filter_map f l) ≡ true)
          → memb k (filter_map f (x ∷ l)) ≡ true
      go none t (inl p) ih = absurd (none-ne-some _ (sym t ∙ ap f (sym p) ∙ e))
      go none t (inr n) ih = rw (filter_map-cons-none f x l t) (ih n)
      go (some y) t (inl p) ih = rw (filter_map-cons-some f x l t) (memb_head k y (filter_map f l) (some-injective _ _ (sym e ∙ ap f p ∙ t)))
      go (some y) t (inr n) ih = rw (filter_map-cons-some f x l t) (memb_tail k y (filter_map f l) (ih n))

  -- an element of the list gives k
  abbrev Gives : List ℕ → ℕ → Type 0
  Gives l k = (j : ℕ) × (memb j l ≡ true) × (f j ≡ some k)

  pub filter_out : (l : List ℕ) (k : ℕ) → memb k (filter_map f l) ≡ true → (j : ℕ) × (memb j l ≡ true) × (f j ≡ some k)
  unfolding filter_map
  filter_out [] k m = absurd (memb_nil k m)
  filter_out (x ∷ l) k m = go (f x) refl (filter_out l k)
    where
      more : Gives l k → Gives (x ∷ l) k
      more r = (r.0, memb_tail r.0 x l r.1, r.2)

      here : (y : ℕ) → f x ≡ some y → (k ≡ y) ⊎ (memb k (filter_map f l) ≡ true) → (memb k (filter_map f l) ≡ true → Gives l k) → Gives (x ∷ l) k
      here y t (inl e) ih = (x, memb_head x x l refl, t ∙ ap some (sym e))
      here y t (inr n) ih = more (ih n)

      go : (o : Option ℕ) → f x ≡ o → (memb k (filter_map f l) ≡ true → Gives l k) → Gives (x ∷ l) k
      go none t ih = more (ih (rw (filter_map-cons-none f x l t) at m))
      go (some y) t ih = here y t (memb_cases k y (filter_map f l) (rw (filter_map-cons-some f x l t) at m)) ih
