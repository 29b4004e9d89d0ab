-- Words of specs/Lists and the library's words for the same functions, so that what a chain of iterators gives can be read in ours.
use Rattle.std.specs.Prelude.{◌≡◌, Bool, ◌||◌, List, [], ◌∷◌, ℕ, eqb}
use Rattle.std.specs.List.{list_any}
use Rattle.std.proofs.Common.{refl, ap}
use Rattle.lists.specs.Lists.{any_of, memb}

pub any_of_list_any : {A : Type 0} (f : A → Bool) (xs : List A) → any_of f xs ≡ list_any f xs
unfolding any_of
any_of_list_any f [] = refl
any_of_list_any f (x ∷ xs) = ap (λ b. f x || b) (any_of_list_any f xs)

pub memb_list_any : (k : ℕ) (xs : List ℕ) → memb k xs ≡ list_any (λ x. eqb k x) xs
unfolding memb
memb_list_any k [] = refl
memb_list_any k (x ∷ xs) = ap (λ b. eqb k x || b) (memb_list_any k xs)
