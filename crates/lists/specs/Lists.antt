-- Small functions on lists and numbers that the definitions share.
use Rattle.std.specs.Prelude.{Bool, true, false, ◌||◌, List, [], ◌∷◌, ◌++◌, ℕ, zero, suc, ◌+◌, max, eqb}

-- k is in the list
unfoldable pub memb : ℕ → List ℕ → Bool
memb k [] = false
memb k (x ∷ xs) = eqb k x || memb k xs

-- some element passes
unfoldable pub any_of : {A : Type 0} → (A → Bool) → List A → Bool
any_of f [] = false
any_of f (x ∷ xs) = f x || any_of f xs

-- the elements that pass, in their order
unfoldable pub filtered : {A : Type 0} → (A → Bool) → List A → List A
filtered f [] = []
filtered f (x ∷ xs) = elim (f x) [ true ↦ x ∷ filtered f xs | false ↦ filtered f xs ]

-- the place of the first element that passes, or the length of the list
unfoldable pub first_of : {A : Type 0} → (A → Bool) → List A → ℕ
first_of f [] = 0
first_of f (x ∷ xs) = elim (f x) [ true ↦ 0 | false ↦ suc (first_of f xs) ]

-- the lowest number below n that passes, or n
unfoldable pub lowest : (ℕ → Bool) → ℕ → ℕ
lowest f zero = 0
lowest f (suc n) = elim (f 0) [ true ↦ 0 | false ↦ suc (lowest (λ i. f (suc i)) n) ]

-- the lists f 0, f 1, .. of the numbers below n, one after another
unfoldable pub gather : {A : Type 0} → (ℕ → List A) → ℕ → List A
gather f zero = []
gather f (suc n) = gather f n ++ f n

-- f 0, f 1, .. of the numbers below n
unfoldable pub up_to : {A : Type 0} → (ℕ → A) → ℕ → List A
up_to f n = gather (λ i. f i ∷ []) n

-- the numbers below n that pass, rising
unfoldable pub pick : (ℕ → Bool) → ℕ → List ℕ
pick f n = gather (λ i. elim (f i) [ true ↦ i ∷ [] | false ↦ [] ]) n

-- one more than the largest of the list, 0 if it is empty
unfoldable pub top : List ℕ → ℕ
top [] = 0
top (x ∷ xs) = max (suc x) (top xs)

-- the sum of the list; of what the elements of xs give it is sum_of (map f xs)
unfoldable pub sum_of : List ℕ → ℕ
sum_of [] = 0
sum_of (x ∷ xs) = x + sum_of xs
