-- Filtered lists with one element more at the end.
use mathlib.Core.Path.{◌≡◌, refl, ap}
use mathlib.Core.Bool.{Bool, true, false}
use mathlib.Core.List.{List, [], ◌∷◌, ◌++◌}
use Rattle.lists.specs.Lists.{filtered}

module _ {A : Type 0} (f : A → Bool) where
  pub filtered_yes : (l : List A) (a : A) → f a ≡ true → filtered f (l ++ (a ∷ [])) ≡ filtered f l ++ (a ∷ [])
  unfolding filtered
  filtered_yes [] a e = rw (e, filtered)
  filtered_yes (x ∷ l) a e = go (f x) refl (filtered_yes l a e)
    where
      go : (b : Bool) → f x ≡ b → filtered f (l ++ (a ∷ [])) ≡ filtered f l ++ (a ∷ [])
          → filtered f (x ∷ (l ++ (a ∷ []))) ≡ filtered f (x ∷ l) ++ (a ∷ [])
      go true p ih = rw (p, filtered) (ap (λ (t : List A). x ∷ t) ih)
      go false p ih = rw (p, filtered) ih

  pub filtered_no : (l : List A) (a : A) → f a ≡ false → filtered f (l ++ (a ∷ [])) ≡ filtered f l
  unfolding filtered
  filtered_no [] a e = rw (e, filtered)
  filtered_no (x ∷ l) a e = go (f x) refl (filtered_no l a e)
    where
      go : (b : Bool) → f x ≡ b → filtered f (l ++ (a ∷ [])) ≡ filtered f l → filtered f (x ∷ (l ++ (a ∷ []))) ≡ filtered f (x ∷ l)
      go true p ih = rw (p, filtered) (ap (λ (t : List A). x ∷ t) ih)
      go false p ih = rw (p, filtered) ih
