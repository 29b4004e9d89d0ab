-- A number in decimal: its last digit, and how many digits it has. What is hard: a tenth of the number is shown with a digit to spare, which changes
-- nothing.
use mathlib.Core.Path.{◌≡◌, refl, sym, ap, ◌∙◌}
use mathlib.Core.Bool.{Bool, true, false}
use mathlib.Core.List.{List, [], ◌∷◌, ◌++◌}
use Prim.Native.Nat.{ℕ, zero, suc, ◌+◌, ◌/◌, ◌%◌, ◌^◌, ◌≤◌, ◌<◌}
use native.Mathlib.Nat.{pow-suc}
use native.Mathlib.Omega.{arith}
use lib.Dec.{ltb}
use lib.ListN.{length, length-append}
use borrow.Author.Tests.{lt-ltb, le-ltb, ltb-true, ltb-false}
use Rattle.listing.specs.Text.{decimal_in, decimal}

pub one_digit : (k n : ℕ) → n < 10 → decimal_in (suc k) n ≡ ((48 + n) ∷ [])
unfolding decimal_in
one_digit k n h = rw (lt-ltb n 10 h, decimal_in)

pub more_digits : (k n : ℕ) → 10 ≤ n → decimal_in (suc k) n ≡ decimal_in k (n / 10) ++ ((48 + n % 10) ∷ [])
unfolding decimal_in
more_digits k n h = rw (le-ltb n 10 h, decimal_in)

pub tenth : (k n : ℕ) → n < 10 ^ suc k → n / 10 < 10 ^ k
tenth k n h = omega (arith, pow-suc 10 k)

-- digits to spare change nothing
spare : (k n : ℕ) → n < 10 ^ suc k → decimal_in (suc (suc k)) n ≡ decimal_in (suc k) n
spare zero n h = let l : n < 10 = h in one_digit 1 n l ∙ sym (one_digit 0 n l)
spare (suc k) n h = go (ltb n 10) refl (spare k (n / 10) (tenth (suc k) n h))
  where
    go : (b : Bool) → ltb n 10 ≡ b → decimal_in (suc (suc k)) (n / 10) ≡ decimal_in (suc k) (n / 10)
        → decimal_in (suc (suc (suc k))) n ≡ decimal_in (suc (suc k)) n
    go true e ih = let l = ltb-true n 10 e in one_digit (suc (suc k)) n l ∙ sym (one_digit (suc k) n l)
    go false e ih = let l = ltb-false n 10 e in
        more_digits (suc (suc k)) n l ∙ ap (λ (xs : List ℕ). xs ++ ((48 + n % 10) ∷ [])) ih ∙ sym (more_digits (suc k) n l)

pub decimal_one : (n : ℕ) → n < 10 → decimal n ≡ ((48 + n) ∷ [])
unfolding decimal
decimal_one n h = one_digit 19 n h

pub decimal_more : (n : ℕ) → 10 ≤ n → n < 10 ^ 20 → decimal n ≡ decimal (n / 10) ++ ((48 + n % 10) ∷ [])
unfolding decimal
decimal_more n l h = more_digits 19 n l ∙ ap (λ (xs : List ℕ). xs ++ ((48 + n % 10) ∷ [])) (sym (spare 18 (n / 10) (tenth 19 n h)))

pub length_more : (n : ℕ) → 10 ≤ n → n < 10 ^ 20 → length (decimal n) ≡ length (decimal (n / 10)) + 1
length_more n l h = ap length (decimal_more n l h) ∙ length-append (decimal (n / 10)) ((48 + n % 10) ∷ [])
