-- Answers that are asked for in turn: all are results, or the first refusal among them decides. Along the list.
use mathlib.Core.Path.{◌≡◌, refl, sym, ap, ◌∙◌, subst}
use mathlib.Core.Logic.{◌⊎◌, inl, inr, ◌↔◌}
use mathlib.Core.Option.{some, some-injective, none-ne-some}
use mathlib.Core.List.{List, [], ◌∷◌}
use Prim.Native.Nat.{ℕ, zero, suc, ◌<◌}
use native.Mathlib.Omega.{arith}
use lib.ListN.{length, get_elem?}
use Rattle.model.specs.Answer.{Answer, returned, refused, then}
use Rattle.model.proofs.Answers.{not_result, result_same, then_result, then_refused}
use Rattle.controller_model.specs.Parts.{in_order}

-- all are results
module _ {A : Type 0} where
  pub record AllResults (xs : List (Answer A)) (ys : List A) : Type 0 where
    pub as_many : length ys ≡ length xs
    pub each : (h : ℕ) (a : A) → get_elem? ys h ≡ some a → get_elem? xs h ≡ some (returned a)

  pub in_order_lem : (xs : List (Answer A)) {ys : List A} → in_order xs ≡ returned ys → AllResults xs ys
  unfolding in_order
  in_order_lem [] {ys} e = rw (← result_same e) (record { as_many = refl; each = λ h a n. absurd (none-ne-some _ n) })
  in_order_lem (x ∷ xs) {ys} e =
      let y = then_result x (λ a. then (in_order xs) (λ bs. returned (a ∷ bs))) e in
      let z = then_result (in_order xs) (λ bs. returned (y.0 ∷ bs)) y.2 in
      subst (AllResults (x ∷ xs)) (result_same z.2) (more y.0 z.0 y.1 (in_order_lem xs z.1))
    where
      more : (a : A) (bs : List A) → x ≡ returned a → AllResults xs bs → AllResults (x ∷ xs) (a ∷ bs)
      more a bs q r = record { as_many = ap suc r.as_many; each = at }
        where
          at : (h : ℕ) (b : A) → get_elem? (a ∷ bs) h ≡ some b → get_elem? (x ∷ xs) h ≡ some (returned b)
          at zero b n = ap some (q ∙ ap returned (some-injective _ _ n))
          at (suc h) b n = r.each h b n

-- one is the refusal, and all before it are results
module _ {A : Type 0} (n p : ℕ) where
  pub record FirstIn (xs : List (Answer A)) : Type 0 where
    pub place : ℕ
    pub is_nth : get_elem? xs place ≡ some (refused n p)
    pub before : (g : ℕ) → g < place → (a : A) × (get_elem? xs g ≡ some (returned a))

  first_out : (xs : List (Answer A)) → in_order xs ≡ refused n p → FirstIn xs
  unfolding in_order
  first_out [] e = absurd (not_result (sym e))
  first_out (x ∷ xs) e = go (then_refused x (λ a. then (in_order xs) (λ ys. returned (a ∷ ys))) e) (first_out xs)
    where
      more : (a : A) → x ≡ returned a → FirstIn xs → FirstIn (x ∷ xs)
      more a q f = record { place = suc f.place; is_nth = f.is_nth; before = at }
        where
          at : (g : ℕ) → g < suc f.place → (a : A) × (get_elem? (x ∷ xs) g ≡ some (returned a))
          at zero l = (a, ap some q)
          at (suc g) l = f.before g (omega arith)

      go : (x ≡ refused n p) ⊎ ((a : A) × (x ≡ returned a) × (then (in_order xs) (λ ys. returned (a ∷ ys)) ≡ refused n p))
          → (in_order xs ≡ refused n p → FirstIn xs) → FirstIn (x ∷ xs)
      go (inl q) ih = record { place = 0; is_nth = ap some q; before = λ g l. absurd (omega arith) }
      go (inr r) ih = later (then_refused (in_order xs) (λ ys. returned (r.0 ∷ ys)) r.2)
        where
          later : (in_order xs ≡ refused n p) ⊎ ((ys : List A) × (in_order xs ≡ returned ys) × (returned (r.0 ∷ ys) ≡ refused n p)) → FirstIn (x ∷ xs)
          later (inl f) = more r.0 r.1 (ih f)
          later (inr f) = absurd (not_result (sym f.2))

  first_back : (xs : List (Answer A)) (k : ℕ) → get_elem? xs k ≡ some (refused n p)
      → ((g : ℕ) → g < k → (a : A) × (get_elem? xs g ≡ some (returned a))) → in_order xs ≡ refused n p
  unfolding in_order
  first_back [] k e b = absurd (none-ne-some _ e)
  first_back (x ∷ xs) zero e b = let q : x ≡ refused n p = some-injective _ _ e in rw q refl
  first_back (x ∷ xs) (suc k) e b =
      let r = b 0 (omega arith) in
      let q : x ≡ returned r.0 = some-injective _ _ r.1 in
      let f : in_order xs ≡ refused n p = first_back xs k e (λ g l. b (suc g) (omega arith)) in
      rw (q, f) refl

  pub in_order_refused : (xs : List (Answer A)) → (in_order xs ≡ refused n p) ↔ FirstIn xs
  in_order_refused xs = (first_out xs, (λ f. first_back xs f.place f.is_nth f.before))
