-- The binary digits of a word, lowest first, and what an operation makes of them. Hard: the complement, by halving the word and the width together;
-- the other operations are one law over the four pairs of digits.
use mathlib.Core.Path.{◌≡◌, refl, sym, ap, ◌∙◌}
use mathlib.Core.Bool.{Bool, true, false, ◌&&◌, ◌||◌, not, true≢false}
use Prim.Native.Nat.{ℕ, zero, suc, ◌+◌, ◌-◌, ◌*◌, ◌/◌, ◌%◌, ◌^◌, ◌<◌, min, max}
use native.Mathlib.Nat.{div-one, pow-suc}
use native.Mathlib.Numerals.{one-add}
use native.Mathlib.Omega.{arith}
use lib.Dec.{eqb}
use lib.Bits.{bit_and, bit_or, bit_xor, differ, and_step, or_step, xor_step, and_shr, or_shr, xor_shr}
use lib.Arith.{digits_mod}
use lib.Pow.{pow_pos, shr-shr}
use Rattle.timer_set.specs.Members.{member}

-- the lowest digit, and the others as those of the half
pub member_zero : (w : ℕ) → member w 0 ≡ eqb (w % 2) 1
unfolding member
member_zero w = ap (λ (x : ℕ). eqb (x % 2) 1) (div-one w)

pub member_suc : (w j : ℕ) → member w (suc j) ≡ member (w / 2) j
unfolding member
member_suc w j = ap (λ (x : ℕ). eqb (x % 2) 1) (sym (shr-shr w 1 j ∙ ap (λ (n : ℕ). w / 2 ^ n) (one-add j)))

-- a word is below its power of 2
pub below_power : (w : ℕ) → w < 2 ^ w
below_power zero = omega arith
below_power (suc w) = omega (arith, below_power w)

pub half_lt : (k w : ℕ) → w < 2 ^ suc k → w / 2 < 2 ^ k
half_lt k w h = omega (arith, pow-suc 2 k)

-- what holds of the four pairs of digits holds of any two digits
pub two_digits : (P : ℕ → ℕ → Type 0) → P 0 0 → P 0 1 → P 1 0 → P 1 1 → (x y : ℕ) → x < 2 → y < 2 → P x y
two_digits P a b c d zero zero h l = a
two_digits P a b c d zero (suc zero) h l = b
two_digits P a b c d zero (suc (suc y)) h l = absurd (omega arith)
two_digits P a b c d (suc zero) zero h l = c
two_digits P a b c d (suc zero) (suc zero) h l = d
two_digits P a b c d (suc zero) (suc (suc y)) h l = absurd (omega arith)
two_digits P a b c d (suc (suc x)) y h l = absurd (omega arith)

-- digits that pass the same test are equal
pub same_digit : (x y : ℕ) → x < 2 → y < 2 → eqb x 1 ≡ eqb y 1 → x ≡ y
same_digit =
    two_digits (λ (x y : ℕ). eqb x 1 ≡ eqb y 1 → x ≡ y) (λ e. refl) (λ e. absurd (true≢false (sym e))) (λ e. absurd (true≢false e)) (λ e. refl)

-- an operation that works digit by digit, where each digit is found by a test
module _ (op digit : ℕ → ℕ → ℕ) (test : Bool → Bool → Bool)
    (step : (a b : ℕ) → op a b ≡ op (a / 2) (b / 2) * 2 + digit (a % 2) (b % 2))
    (shift : (a b k : ℕ) → op a b / 2 ^ k ≡ op (a / 2 ^ k) (b / 2 ^ k))
    (small : (x y : ℕ) → x < 2 → y < 2 → digit x y < 2)
    (agrees : (x y : ℕ) → x < 2 → y < 2 → eqb (digit x y) 1 ≡ test (eqb x 1) (eqb y 1)) where
  member_op : (a b j : ℕ) → member (op a b) j ≡ test (member a j) (member b j)
  unfolding member
  member_op a b j =
      ap (λ (x : ℕ). eqb (x % 2) 1) (shift a b j ∙ step (a / 2 ^ j) (b / 2 ^ j))
      ∙ ap (λ (x : ℕ). eqb x 1) (digits_mod _ (small _ _ (omega arith) (omega arith)))
      ∙ agrees _ _ (omega arith) (omega arith)

pub member_or : (a b j : ℕ) → member (bit_or a b) j ≡ (member a j || member b j)
member_or = member_op bit_or max ◌||◌ or_step or_shr (λ x y h l. omega arith) (two_digits _ refl refl refl refl)

pub member_and : (a b j : ℕ) → member (bit_and a b) j ≡ (member a j && member b j)
member_and = member_op bit_and min ◌&&◌ and_step and_shr (λ x y h l. omega arith) (two_digits _ refl refl refl refl)

-- one of the two, not both
abbrev pub either : Bool → Bool → Bool
either true b = not b
either false b = b

pub member_xor : (a b j : ℕ) → member (bit_xor a b) j ≡ either (member a j) (member b j)
member_xor =
    member_op bit_xor differ either xor_step xor_shr
    (two_digits (λ (x y : ℕ). differ x y < 2) (omega arith) (omega arith) (omega arith) (omega arith))
    (two_digits _ refl refl refl refl)

-- the complement of a word of k digits
pub member_not : (k w j : ℕ) → w < 2 ^ k → j < k → member ((2 ^ k - 1) - w) j ≡ not (member w j)
member_not zero w j h l = absurd (omega arith)
member_not (suc k) w zero h l =
    member_zero _ ∙ ap (λ (x : ℕ). eqb x 1) low ∙ flip (w % 2) (w % 2) (omega arith) (omega arith) ∙ ap not (sym (member_zero w))
  where
    low : ((2 ^ suc k - 1) - w) % 2 ≡ 1 - w % 2
    low = omega (arith, pow_pos k, pow-suc 2 k)

    flip : (x y : ℕ) → x < 2 → y < 2 → eqb (1 - x) 1 ≡ not (eqb x 1)
    flip = two_digits (λ (x y : ℕ). eqb (1 - x) 1 ≡ not (eqb x 1)) refl refl refl refl
member_not (suc k) w (suc j) h l =
    member_suc _ j ∙ ap (λ (x : ℕ). member x j) half ∙ member_not k (w / 2) j (half_lt k w h) (omega arith) ∙ ap not (sym (member_suc w j))
  where
    half : ((2 ^ suc k - 1) - w) / 2 ≡ (2 ^ k - 1) - w / 2
    half = omega (arith, pow_pos k, pow-suc 2 k)
