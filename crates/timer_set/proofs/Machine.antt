-- The operations on sets as the machine makes them from shifts, masks and complements at a width of k. Each is a law of members.
use mathlib.Core.Path.{◌≡◌, sym, ap, ◌∙◌}
use mathlib.Core.Bool.{Bool, ◌&&◌}
use Prim.Native.Nat.{ℕ, ◌-◌, ◌*◌, ◌/◌, ◌%◌, ◌^◌, ◌<◌}
use native.Mathlib.Nat.{one-mul, mod-eq_of_lt}
use native.Mathlib.Omega.{arith}
use lib.Dec.{eqb}
use lib.Bits.{bit_and, bit_or, and_le_l, and_mask}
use lib.Pow.{pow-lt}
use Rattle.timer_set.specs.Members.{member, minus, added, removed}
use Rattle.timer_set.proofs.Digits.{member_and, member_not}
use Rattle.timer_set.proofs.Members.{member_ext, member_minus, minus_lt}

shifted_one : (k j : ℕ) → j < k → (1 * 2 ^ j) % 2 ^ k ≡ 2 ^ j
shifted_one k j l = ap (λ (x : ℕ). x % 2 ^ k) (one-mul (2 ^ j)) ∙ mod-eq_of_lt (pow-lt l)

pub machine_added : (k w j : ℕ) → j < k → bit_or w ((1 * 2 ^ j) % 2 ^ k) ≡ added w j
unfolding added
machine_added k w j l = ap (bit_or w) (shifted_one k j l)

pub machine_minus : (k a b : ℕ) → a < 2 ^ k → b < 2 ^ k → bit_and a ((2 ^ k - 1) - b) ≡ minus a b
machine_minus k a b h l =
    member_ext k (bit_and a ((2 ^ k - 1) - b)) (minus a b) (omega (arith, and_le_l a ((2 ^ k - 1) - b))) (minus_lt k a b h)
    (λ j q. member_and a ((2 ^ k - 1) - b) j ∙ ap (λ (x : Bool). member a j && x) (member_not k b j l q) ∙ sym (member_minus a b j))

pub machine_removed : (k w j : ℕ) → w < 2 ^ k → j < k → bit_and w ((2 ^ k - 1) - (1 * 2 ^ j) % 2 ^ k) ≡ removed w j
unfolding removed
machine_removed k w j h l = ap (λ (x : ℕ). bit_and w ((2 ^ k - 1) - x)) (shifted_one k j l) ∙ machine_minus k w (2 ^ j) h (pow-lt l)

pub machine_member : (w j : ℕ) → eqb (bit_and (w / 2 ^ j) 1) 1 ≡ member w j
unfolding member
machine_member w j = ap (λ (x : ℕ). eqb x 1) (and_mask (w / 2 ^ j) 1)
