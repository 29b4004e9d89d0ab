-- Two strictly rising lists with the same elements are equal. Hard: that they have the same head: each head is in the other list, and no element is
-- below a head.
use mathlib.Core.Path.{◌≡◌, refl, sym, ap₂, ◌∙◌}
use mathlib.Core.Logic.{◌⊎◌, inl, inr}
use mathlib.Core.Bool.{true}
use mathlib.Core.List.{List, [], ◌∷◌}
use Prim.Native.Nat.{ℕ, suc, ◌≤◌}
use native.Mathlib.Omega.{arith}
use Rattle.lists.specs.Lists.{memb}
use Rattle.lists.specs.Rising.{Rising}
use Rattle.lists.proofs.Bools.{same_bool}
use Rattle.lists.proofs.Membership.{memb_cases, memb_head, memb_tail, memb_nil}
use Rattle.lists.proofs.Gather.{rising_below}

-- no element is below the first
first_least : (n lo y k : ℕ) (ys : List ℕ) → Rising n lo (y ∷ ys) → memb k (y ∷ ys) ≡ true → y ≤ k
first_least n lo y k ys r m = (rising_below n y (y ∷ ys) ((omega arith, r.0.1), r.1) k m).0

-- an element of a list that rises from above x is one of the rest of the other
rest : (n x y k : ℕ) (xs ys : List ℕ) → x ≡ y → Rising n (suc x) xs → ((k : ℕ) → memb k (x ∷ xs) ≡ memb k (y ∷ ys))
    → memb k xs ≡ true → memb k ys ≡ true
rest n x y k xs ys e r same m = go (memb_cases k y ys (sym (same k) ∙ memb_tail k x xs m))
  where
    go : (k ≡ y) ⊎ (memb k ys ≡ true) → memb k ys ≡ true
    go (inl p) = absurd (omega (arith, (rising_below n (suc x) xs r k m).0))
    go (inr q) = q

pub rising_same : (m n lo : ℕ) (xs ys : List ℕ) → Rising m lo xs → Rising n lo ys → ((k : ℕ) → memb k xs ≡ memb k ys) → xs ≡ ys
rising_same m n lo [] [] r s same = refl
rising_same m n lo [] (y ∷ ys) r s same = absurd (memb_nil y (same y ∙ memb_head y y ys refl))
rising_same m n lo (x ∷ xs) [] r s same = absurd (memb_nil x (sym (same x) ∙ memb_head x x xs refl))
rising_same m n lo (x ∷ xs) (y ∷ ys) r s same =
    let at_most : y ≤ x = first_least n lo y x ys s (sym (same x) ∙ memb_head x x xs refl) in
    let at_least : x ≤ y = first_least m lo x y xs r (same y ∙ memb_head y y ys refl) in
    let e : x ≡ y = omega arith in
    let r' : Rising m (suc x) xs = r.1 in
    let s' : Rising n (suc y) ys = s.1 in
    ap₂ ◌∷◌ e (rising_same m n (suc x) xs ys r' (rw e s')
    (λ k. same_bool _ _ (rest m x y k xs ys e r' same) (rest n y x k ys xs (sym e) s' (λ j. sym (same j)))))
