-- Which timers are in the sets that the operations make, and that a set is its members. Hard: two words with the same members are equal, by induction
-- over the width, digit and half.
use mathlib.Core.Path.{◌≡◌, refl, sym, ap, ◌∙◌}
use mathlib.Core.Logic.{◌⊎◌, inl, inr}
use mathlib.Core.Bool.{Bool, true, false, ◌&&◌, ◌||◌, not, or-false, or_assoc}
use mathlib.Core.List.{List, [], ◌∷◌, foldl}
use Prim.Native.Nat.{ℕ, zero, suc, ◌-◌, ◌/◌, ◌%◌, ◌^◌, ◌≤◌, ◌<◌}
use native.Mathlib.Nat.{zero-div, div-eq_of_lt, lt_of_lt_of_le, pow-suc}
use native.Mathlib.Omega.{arith}
use lib.Dec.{eqb, eqb-suc-suc, eqb-suc-zero, eqb-zero-suc}
use lib.Bits.{bit_and, and_le_l, and_le_r, or_add_and, or_lt, xor_lt}
use lib.Pow.{pow-lt, pow_mono, pow_pos}
use Rattle.lists.specs.Lists.{memb, lowest}
use Rattle.lists.specs.Rising.{Rising}
use Rattle.lists.proofs.Bools.{lt_or_le, same_bool, not_both}
use Rattle.lists.proofs.Membership.{memb_head, memb_tail}
use Rattle.lists.proofs.Lowest.{lowest_passes, lowest_before}
use Rattle.lists.proofs.Gather.{pick_in, pick_out, pick_rising, rising_below}
use Rattle.lists.proofs.Rising.{rising_same}
use Rattle.timer_set.specs.Members.{member, joined, common, minus, added, removed, every_timer, set_of, members}
use Rattle.timer_set.proofs.Digits.{member_zero, member_suc, half_lt, same_digit, either, member_or, member_and, member_xor, member_not}

-- ---- the members of what each operation makes

pub member_empty : (j : ℕ) → member 0 j ≡ false
unfolding member
member_empty j = ap (λ (x : ℕ). eqb (x % 2) 1) (zero-div (2 ^ j))

pub member_joined : (a b j : ℕ) → member (joined a b) j ≡ (member a j || member b j)
unfolding joined
member_joined = member_or

pub member_common : (a b j : ℕ) → member (common a b) j ≡ (member a j && member b j)
unfolding common
member_common = member_and

pub member_minus : (a b j : ℕ) → member (minus a b) j ≡ (member a j && not (member b j))
unfolding minus
member_minus a b j = member_xor a (bit_and a b) j ∙ ap (either (member a j)) (member_and a b j) ∙ cleared (member a j) (member b j)
  where
    cleared : (x y : Bool) → either x (x && y) ≡ (x && not y)
    cleared true y = refl
    cleared false y = refl

pub member_one : (i j : ℕ) → member (2 ^ i) j ≡ eqb j i
member_one zero zero = member_zero 1
member_one zero (suc j) = member_suc 1 j ∙ member_empty j ∙ sym (eqb-suc-zero j)
member_one (suc i) zero = member_zero (2 ^ suc i) ∙ ap (λ (x : ℕ). eqb x 1) even ∙ sym (eqb-zero-suc i)
  where
    even : 2 ^ suc i % 2 ≡ 0
    even = omega (arith, pow-suc 2 i)
member_one (suc i) (suc j) =
    member_suc (2 ^ suc i) j ∙ ap (λ (x : ℕ). member x j) (omega (arith, pow-suc 2 i)) ∙ member_one i j ∙ sym (eqb-suc-suc j i)

pub member_added : (w i j : ℕ) → member (added w i) j ≡ (member w j || eqb j i)
unfolding added
member_added w i j = member_or w (2 ^ i) j ∙ ap (λ (b : Bool). member w j || b) (member_one i j)

pub member_removed : (w i j : ℕ) → member (removed w i) j ≡ (member w j && not (eqb j i))
unfolding removed
member_removed w i j = member_minus w (2 ^ i) j ∙ ap (λ (b : Bool). member w j && not b) (member_one i j)

pub member_full : (k j : ℕ) → j < k → member (2 ^ k - 1) j ≡ true
member_full k j h = ap (λ (x : ℕ). member x j) (omega arith) ∙ member_not k 0 j (pow_pos k) h ∙ ap not (member_empty j)

pub member_every : (j : ℕ) → j < 64 → member every_timer j ≡ true
unfolding every_timer
member_every j h = member_full 64 j h

-- a word of k digits has no member from k on
pub member_high : (k w j : ℕ) → w < 2 ^ k → k ≤ j → member w j ≡ false
unfolding member
member_high k w j h l = ap (λ (x : ℕ). eqb (x % 2) 1) (div-eq_of_lt (lt_of_lt_of_le h (pow_mono l)))

pub member_past : (w j : ℕ) → w < 2 ^ 64 → 64 ≤ j → member w j ≡ false
member_past w j h l = member_high 64 w j h l

-- ---- a set is its members

pub member_ext : (k a b : ℕ) → a < 2 ^ k → b < 2 ^ k → ((j : ℕ) → j < k → member a j ≡ member b j) → a ≡ b
member_ext zero a b h l e = omega arith
member_ext (suc k) a b h l e =
    let low : a % 2 ≡ b % 2 = same_digit _ _ (omega arith) (omega arith) (sym (member_zero a) ∙ e 0 (omega arith) ∙ member_zero b) in
    let halves : (j : ℕ) → j < k → member (a / 2) j ≡ member (b / 2) j = λ j q. sym (member_suc a j) ∙ e (suc j) (omega arith) ∙ member_suc b j in
    let high : a / 2 ≡ b / 2 = member_ext k (a / 2) (b / 2) (half_lt k a h) (half_lt k b l) halves in
    omega arith

pub none_empty : (k w : ℕ) → w < 2 ^ k → ((j : ℕ) → j < k → member w j ≡ false) → w ≡ 0
none_empty k w h e = member_ext k w 0 h (pow_pos k) (λ j l. e j l ∙ sym (member_empty j))

pub some_member : (k w : ℕ) → w < 2 ^ k → (w ≡ 0 → ⊥) → (j : ℕ) × (j < k) × (member w j ≡ true)
some_member k w h e = go (lt_or_le (lowest (member w) k) k)
  where
    go : (lowest (member w) k < k) ⊎ (k ≤ lowest (member w) k) → (j : ℕ) × (j < k) × (member w j ≡ true)
    go (inl l) = (lowest (member w) k, l, lowest_passes (member w) k l)
    go (inr l) = absurd (e (none_empty k w h (λ j q. lowest_before (member w) k j (omega arith))))

-- ---- the results are words of as many digits

pub joined_more : (a b : ℕ) → a ≤ joined a b
unfolding joined
joined_more a b = omega (arith, or_add_and a b, and_le_r a b)

pub joined_lt : (k a b : ℕ) → a < 2 ^ k → b < 2 ^ k → joined a b < 2 ^ k
unfolding joined
joined_lt k a b h l = or_lt k a b h l

pub common_lt : (k a b : ℕ) → a < 2 ^ k → common a b < 2 ^ k
unfolding common
common_lt k a b h = omega (arith, and_le_l a b)

pub minus_lt : (k a b : ℕ) → a < 2 ^ k → minus a b < 2 ^ k
unfolding minus
minus_lt k a b h = xor_lt k a (bit_and a b) h (omega (arith, and_le_l a b))

pub added_lt : (k w j : ℕ) → w < 2 ^ k → j < k → added w j < 2 ^ k
unfolding added
added_lt k w j h l = or_lt k w (2 ^ j) h (pow-lt l)

pub removed_lt : (k w j : ℕ) → w < 2 ^ k → removed w j < 2 ^ k
unfolding removed
removed_lt k w j h = minus_lt k w (2 ^ j) h

-- ---- the set of a list, and the list of a set

added_all : (l : List ℕ) (w j : ℕ) → member (foldl added w l) j ≡ (member w j || memb j l)
unfolding memb
added_all [] w j = sym (or-false (member w j))
added_all (x ∷ l) w j = added_all l (added w x) j ∙ ap (λ (b : Bool). b || memb j l) (member_added w x j) ∙ or_assoc (member w j) (eqb j x) (memb j l)

pub member_set_of : (l : List ℕ) (j : ℕ) → member (set_of l) j ≡ memb j l
unfolding set_of
member_set_of l j = added_all l 0 j ∙ ap (λ (b : Bool). b || memb j l) (member_empty j)

added_all_lt : (k : ℕ) (l : List ℕ) (w : ℕ) → w < 2 ^ k → ((j : ℕ) → memb j l ≡ true → j < k) → foldl added w l < 2 ^ k
added_all_lt k [] w h f = h
added_all_lt k (x ∷ l) w h f = added_all_lt k l (added w x) (added_lt k w x h (f x (memb_head x x l refl))) (λ j m. f j (memb_tail j x l m))

pub set_of_lt : (k : ℕ) (l : List ℕ) → ((j : ℕ) → memb j l ≡ true → j < k) → set_of l < 2 ^ k
unfolding set_of
set_of_lt k l f = added_all_lt k l 0 (pow_pos k) f

-- the list of a set has its members
pub memb_members : (w j : ℕ) → w < 2 ^ 64 → memb j (members w) ≡ member w j
unfolding members
memb_members w j h = same_bool _ _ (λ m. (pick_out (member w) 64 j m).1) (λ m. pick_in (member w) 64 j (below m (lt_or_le j 64)) m)
  where
    below : member w j ≡ true → (j < 64) ⊎ (64 ≤ j) → j < 64
    below m (inl l) = l
    below m (inr l) = absurd (not_both m (member_high 64 w j h l))

pub members_rising : (w : ℕ) → Rising 64 0 (members w)
unfolding members
members_rising w = pick_rising (member w) 64

pub members_set_of : (n : ℕ) (l : List ℕ) → Rising n 0 l → n ≤ 64 → members (set_of l) ≡ l
members_set_of n l r h =
    rising_same 64 n 0 (members (set_of l)) l (members_rising (set_of l)) r
    (λ j. memb_members (set_of l) j (set_of_lt 64 l within) ∙ member_set_of l j)
  where
    within : (j : ℕ) → memb j l ≡ true → j < 64
    within j m = omega (arith, (rising_below n 0 l r j m).1)

pub set_of_members : (w : ℕ) → w < 2 ^ 64 → set_of (members w) ≡ w
set_of_members w h =
    member_ext 64 (set_of (members w)) w (set_of_lt 64 (members w) (λ j m. (rising_below 64 0 (members w) (members_rising w) j m).1)) h
    (λ j l. member_set_of (members w) j ∙ memb_members w j h)
