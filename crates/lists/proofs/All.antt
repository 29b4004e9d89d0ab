-- What holds of every element of a list, and tests that none of them passes.
use mathlib.Core.Path.{◌≡◌, refl}
use mathlib.Core.Bool.{Bool, true, false, ◌||◌}
use mathlib.Core.List.{List, [], ◌∷◌}
use Prim.Native.Nat.{ℕ, zero, suc}
use lib.ListN.{take, drop}
use Rattle.lists.specs.Lists.{any_of}
use Rattle.lists.specs.Rising.{All}
use Rattle.lists.proofs.Bools.{not_both}

-- every element has P, where P holds of all
pub all_have : {A : Type 0} {P : A → Type 0} → ((a : A) → P a) → (l : List A) → All P l
all_have h [] = tt
all_have h (a ∷ l) = (h a, all_have h l)

-- every element has what follows from what it has
pub all_as : {A : Type 0} {P Q : A → Type 0} → ((a : A) → P a → Q a) → (l : List A) → All P l → All Q l
all_as h [] x = tt
all_as h (a ∷ l) x = (h a x.0, all_as h l x.1)

-- what every element has, those of a part have
module _ {A : Type 0} (P : A → Type 0) where
  pub all_take : (n : ℕ) (l : List A) → All P l → All P (take n l)
  all_take zero l a = tt
  all_take (suc n) [] a = tt
  all_take (suc n) (x ∷ l) a = (a.0, all_take n l a.1)

  pub all_drop : (n : ℕ) (l : List A) → All P l → All P (drop n l)
  all_drop zero l a = a
  all_drop (suc n) [] a = tt
  all_drop (suc n) (x ∷ l) a = all_drop n l a.1

-- none passes: each fails, and the other way round
module _ {A : Type 0} (f : A → Bool) where
  pub none_passes : (l : List A) → any_of f l ≡ false → All (λ a. f a ≡ false) l
  unfolding any_of
  none_passes [] e = tt
  none_passes (a ∷ l) e = (or_no_left (f a) (any_of f l) e, none_passes l (or_no_right (f a) (any_of f l) e))
    where
      or_no_left : (a b : Bool) → (a || b) ≡ false → a ≡ false
      or_no_left false b e = refl
      or_no_left true b e = e

      or_no_right : (a b : Bool) → (a || b) ≡ false → b ≡ false
      or_no_right false b e = e
      or_no_right true b e = absurd (not_both refl e)

  pub each_fails : (P : A → Type 0) → ((a : A) → P a → f a ≡ false) → (l : List A) → All P l → any_of f l ≡ false
  unfolding any_of
  each_fails P h [] x = refl
  each_fails P h (a ∷ l) x = rw (h a x.0, each_fails P h l x.1)
