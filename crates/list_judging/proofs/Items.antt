-- Items that come one after another, each by what the items before it left, and a loop over them that adds up what they give. What is hard is that an
-- item's state depends on all items before it: `Each` says it of the list of them.
use mathlib.Core.Path.{◌≡◌, refl, sym, ap, ◌∙◌, subst}
use mathlib.Core.Option.{some, some-injective, none-ne-some}
use mathlib.Core.List.{List, [], ◌∷◌}
use Prim.Native.Nat.{ℕ, zero, suc, ◌+◌, ◌-◌, ◌≤◌, ◌<◌}
use native.Mathlib.Nat.{add-zero, sub-zero}
use native.Mathlib.Omega.{arith}
use lib.ListN.{length, get_elem?}
use Rattle.lists.specs.Rising.{All}
use Rattle.lists.proofs.Nth.{below_nth}
use Rattle.model.specs.Answer.{Answer, returned, refused, then}
use Rattle.file_format.proofs.Answers.{then_result}
use Rattle.model.proofs.Answers.{then_then, then_same}

-- z and the elements, one added after another
unfoldable pub added : {A B : Type 0} → (add : B → A → B) → B → List A → B
added add z [] = z
added add z (a ∷ xs) = added add (add z a) xs

module _ {A : Type 0} (item : (i s : ℕ) → Answer A) (next : ℕ → A → ℕ) where
  -- n items from number i on; s is what the items before left
  unfoldable pub items : (i s n : ℕ) → Answer (List A)
  items i s zero = returned []
  items i s (suc n) = then (item i s) (λ a. then (items (suc i) (next s a) n) (λ xs. returned (a ∷ xs)))

  -- these are the items
  abbrev pub Each : (i s : ℕ) → List A → Type 0
  Each i s [] = Unit {0}
  Each i s (a ∷ xs) = (item i s ≡ returned a) × Each (suc i) (next s a) xs

  pub items_length : (i s n : ℕ) (xs : List A) → items i s n ≡ returned xs → length xs ≡ n
  unfolding items
  items_length i s zero xs e = let q : [] ≡ xs = cc in ap length (sym q)
  items_length i s (suc n) xs e =
      let a = then_result (item i s) _ e in
      let b = then_result (items (suc i) (next s a.0) n) _ a.2 in
      let q : a.0 ∷ b.0 ≡ xs = cc in
      ap length (sym q) ∙ ap suc (items_length (suc i) (next s a.0) n b.0 b.1)

  pub items_each : (i s n : ℕ) (xs : List A) → items i s n ≡ returned xs → Each i s xs
  unfolding items
  items_each i s zero [] e = tt
  items_each i s zero (x ∷ xs) e = let z : ◌≡◌ {A = ℕ} 0 1 = cc in absurd (omega arith)
  items_each i s (suc n) xs e =
      let a = then_result (item i s) _ e in
      let b = then_result (items (suc i) (next s a.0) n) _ a.2 in
      let q : a.0 ∷ b.0 ≡ xs = cc in
      subst (Each i s) q (a.1, items_each (suc i) (next s a.0) n b.0 b.1)

  pub each_items : (i s : ℕ) (xs : List A) → Each i s xs → items i s (length xs) ≡ returned xs
  unfolding items
  each_items i s [] h = refl
  each_items i s (a ∷ xs) h = rw (h.0, each_items (suc i) (next s a) xs h.1)

  -- what holds of each item holds of all
  pub each_all : (P : A → Type 0) → ((i s : ℕ) (a : A) → item i s ≡ returned a → P a) → (i s : ℕ) (xs : List A) → Each i s xs → All P xs
  each_all P f i s [] h = tt
  each_all P f i s (a ∷ xs) h = (f i s a h.0, each_all P f (suc i) (next s a) xs h.1)

  -- what holds of an item at its number holds of each
  pub each_nth : (P : ℕ → A → Type 0) → ((i s : ℕ) (a : A) → item i s ≡ returned a → P i a)
      → (i s : ℕ) (xs : List A) → Each i s xs → (j : ℕ) (a : A) → get_elem? xs j ≡ some a → P (i + j) a
  each_nth P f i s [] h j a e = absurd (none-ne-some _ e)
  each_nth P f i s (x ∷ xs) h zero a e = rw (add-zero i, ← some-injective _ _ e) (f i s x h.0)
  each_nth P f i s (x ∷ xs) h (suc j) a e =
      let q : i + suc j ≡ suc i + j = omega arith in
      rw q (each_nth P f (suc i) (next s x) xs h.1 j a e)

  -- a list that has an entry for each item is long enough
  pub each_room : (f : A → ℕ) (w : List ℕ) → ((i s : ℕ) (a : A) → item i s ≡ returned a → get_elem? w i ≡ some (f a))
      → (i s : ℕ) (xs : List A) → Each i s xs → length xs ≤ length w - i
  each_room f w e i s [] h = omega arith
  each_room f w e i s (a ∷ xs) h = omega (arith, below_nth w i (e i s a h.0), each_room f w e (suc i) (next s a) xs h.1)

  -- ---- a loop that adds up what the items give

  module _ {B : Type 0} (add : B → A → B) where
    -- whole is what n items come to; k of them came to sum, those left begin with number i and state s
    pub record Turn (whole : Answer B) (n k i s : ℕ) (sum : B) : Type 0 where
      pub most : k ≤ n
      pub left : whole ≡ then (items i s (n - k)) (λ xs. returned (added add sum xs))

    -- g is what the items come to from z on
    pub turn_first : (g : List A → B) (z : B) → ((xs : List A) → added add z xs ≡ g xs) → (i s n : ℕ)
        → Turn (then (items i s n) (λ xs. returned (g xs))) n 0 i s z
    turn_first g z e i s n = record {
      most = omega arith;
      left = rw (sub-zero n) (then_same (items i s n) _ _ (λ xs. ap returned (sym (e xs))));
    }

module _ {A B : Type 0} {item : (i s : ℕ) → Answer A} {next : ℕ → A → ℕ} {add : B → A → B} {whole : Answer B} {n k i s : ℕ} {sum : B}
    (h : Turn item next add whole n k i s sum) where
  pub turn_done : n ≤ k → whole ≡ returned sum
  unfolding items added
  turn_done l = let e : n - k ≡ 0 = omega (arith, h.most) in h.left ∙ rw e

  module _ (l : k < n) where
    turn_step : whole ≡ then (item i s) (λ a.
        then (items item next (suc i) (next s a) (n - (k + 1))) (λ xs.
        returned (added add (add sum a) xs)))
    unfolding items added
    turn_step =
        let e : n - k ≡ suc (n - (k + 1)) = omega arith in
        let rest : (a : A) → Answer (List A) = λ a. items item next (suc i) (next s a) (n - (k + 1)) in
        h.left ∙ rw e (then_then (item i s) _ _ ∙ then_same (item i s) _ _ (λ a. then_then (rest a) _ _))

    pub turn_refused : {m p : ℕ} → item i s ≡ refused m p → whole ≡ refused m p
    turn_refused e = turn_step ∙ rw e

    pub turn_again : {a : A} (i' s' : ℕ) (sum' : B) → item i s ≡ returned a → i' ≡ suc i → s' ≡ next s a → sum' ≡ add sum a
        → Turn item next add whole n (k + 1) i' s' sum'
    turn_again {a} i' s' sum' e ei es em = record { most = omega arith; left = turn_step ∙ rw (e, ei, es, em) }
