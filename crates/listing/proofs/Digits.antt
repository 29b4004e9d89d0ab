-- A refusal's text tells its number and its place. What is hard is to see where a number ends: the byte after it is no digit.
use mathlib.Core.Path.{◌≡◌, refl, sym, ap, ap₂, ◌∙◌}
use mathlib.Core.Bool.{Bool, true, false}
use mathlib.Core.List.{List, [], ◌∷◌, ◌++◌}
use Prim.Native.Nat.{ℕ, zero, suc, ◌+◌, ◌-◌, ◌*◌, ◌/◌, ◌%◌, ◌^◌, ◌≤◌, ◌<◌}
use native.Mathlib.Omega.{arith}
use lib.Dec.{ltb}
use borrow.Author.Tests.{ltb-true, ltb-false}
use Rattle.lists.specs.Rising.{All}
use Rattle.listing.specs.Text.{decimal_in, decimal, refused_word, line_feed}
use Rattle.listing.specs.Listing.{refused_text}
use Rattle.listing.proofs.Decimal.{one_digit, more_digits, tenth}

-- ---- the number that digits are read as

value : ℕ → List ℕ → ℕ
value a [] = a
value a (d ∷ ds) = value (10 * a + (d - 48)) ds

value_more : (a d : ℕ) (ds : List ℕ) → value a (ds ++ (d ∷ [])) ≡ 10 * value a ds + (d - 48)
unfolding value
value_more a d [] = refl
value_more a d (x ∷ xs) = value_more (10 * a + (x - 48)) d xs

read_back : (k n : ℕ) → n < 10 ^ suc k → value 0 (decimal_in (suc k) n) ≡ n
unfolding value
read_back zero n h = let l : n < 10 = h in rw (one_digit 0 n l) (omega arith)
read_back (suc k) n h = go (ltb n 10) refl (read_back k (n / 10) (tenth (suc k) n h))
  where
    go : (b : Bool) → ltb n 10 ≡ b → value 0 (decimal_in (suc k) (n / 10)) ≡ n / 10 → value 0 (decimal_in (suc (suc k)) n) ≡ n
    go true e ih = rw (one_digit (suc k) n (ltb-true n 10 e)) (omega arith)
    go false e ih = rw (more_digits (suc k) n (ltb-false n 10 e), value_more, ih) (omega arith)

decimal_same : (m n : ℕ) → m < 10 ^ 20 → n < 10 ^ 20 → decimal m ≡ decimal n → m ≡ n
unfolding decimal
decimal_same m n h l e = sym (read_back 19 m h) ∙ ap (value 0) e ∙ read_back 19 n l

-- ---- a number ends where a byte that is no digit stands

abbrev Digits : List ℕ → Type 0
Digits xs = All (λ (d : ℕ). 48 ≤ d) xs

digits_more : (xs : List ℕ) (d : ℕ) → Digits xs → 48 ≤ d → Digits (xs ++ (d ∷ []))
digits_more [] d a h = (h, tt)
digits_more (x ∷ xs) d a h = (a.0, digits_more xs d a.1 h)

decimal_digits : (k n : ℕ) → Digits (decimal_in k n)
unfolding decimal_in
decimal_digits zero n = tt
decimal_digits (suc k) n = go (ltb n 10) refl (decimal_digits k (n / 10))
  where
    go : (b : Bool) → ltb n 10 ≡ b → Digits (decimal_in k (n / 10)) → Digits (decimal_in (suc k) n)
    go true e ih = rw (e, decimal_in) (omega arith, tt)
    go false e ih = rw (e, decimal_in) (digits_more (decimal_in k (n / 10)) (48 + n % 10) ih (omega arith))

ends : (s : ℕ) → s < 48 → (xs ys us vs : List ℕ) → Digits xs → Digits ys → xs ++ (s ∷ us) ≡ ys ++ (s ∷ vs) → (xs ≡ ys) × (us ≡ vs)
ends s h [] [] us vs u v e = (refl, cc)
ends s h [] (y ∷ ys) us vs u v e = let f : s ≡ y = cc in absurd (omega (arith, v.0))
ends s h (x ∷ xs) [] us vs u v e = let f : x ≡ s = cc in absurd (omega (arith, u.0))
ends s h (x ∷ xs) (y ∷ ys) us vs u v e =
    let r = ends s h xs ys us vs u.1 v.1 (cc) in
    let f : x ≡ y = cc in
    (ap₂ ◌∷◌ f r.0, r.1)

module _ (m n p q : ℕ) (hm : m < 10 ^ 20) (hn : n < 10 ^ 20) (hp : p < 10 ^ 20) (hq : q < 10 ^ 20) where
  pub refused_same : refused_text m p ≡ refused_text n q → (m ≡ n) × (p ≡ q)
  unfolding refused_text refused_word decimal
  refused_same e =
      let r = ends 32 (omega arith) (decimal m) (decimal n) (decimal p ++ (line_feed ∷ [])) (decimal q ++ (line_feed ∷ []))
      (decimal_digits 20 m) (decimal_digits 20 n) (cc) in
      let t = ends 10 (omega arith) (decimal p) (decimal q) [] [] (decimal_digits 20 p) (decimal_digits 20 q) r.1 in
      (decimal_same m n hm hn r.0, decimal_same p q hp hq t.0)
