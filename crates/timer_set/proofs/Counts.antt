-- How many timers a set has, that a larger set has more, and the lowest timer that is not in it. Hard: ones are counted from the lowest digit on, the
-- members listed up to the last: a list of numbers that pass is taken apart at its front too.
use mathlib.Core.Path.{◌≡◌, refl, sym, ap, ap₂, ◌∙◌}
use mathlib.Core.Logic.{◌⊎◌, inl, inr, ⊎_elim}
use mathlib.Core.Bool.{Bool, true, false, not}
use mathlib.Core.List.{[], ◌∷◌}
use Prim.Native.Nat.{ℕ, zero, suc, ◌+◌, ◌-◌, ◌/◌, ◌%◌, ◌^◌, ◌≤◌, ◌<◌}
use native.Mathlib.Omega.{arith}
use lib.Dec.{eqb}
use lib.Arith.{lt-one}
use lib.Count.{ones, ones_step, count_trailing_zeros, under}
use lib.ListN.{length, length-append}
use Rattle.lists.specs.Lists.{gather, lowest, pick}
use Rattle.lists.proofs.Bools.{lt_or_le}
use Rattle.lists.proofs.Lowest.{lowest_same}
use Rattle.timer_set.specs.Members.{member, members, lowest_missing}
use Rattle.timer_set.proofs.Digits.{member_zero, member_suc, member_not, half_lt}

-- ---- how many members

abbrev one : Bool → ℕ
one true = 1
one false = 0

-- a list of the numbers that pass is longer by one for each
length_last : (f : ℕ → Bool) (n : ℕ) → length (pick f (suc n)) ≡ length (pick f n) + one (f n)
unfolding pick gather
length_last f n = length-append (pick f n) _ ∙ ap (λ (x : ℕ). length (pick f n) + x) (last (f n))
  where
    last : (b : Bool) → length {A = ℕ} (elim b [ true ↦ n ∷ [] | false ↦ [] ]) ≡ one b
    last true = refl
    last false = refl

-- the first apart, in place of the last
length_first : (f : ℕ → Bool) (n : ℕ) → length (pick f (suc n)) ≡ one (f 0) + length (pick (λ i. f (suc i)) n)
unfolding pick gather
length_first f zero = length_last f 0 ∙ none (one (f 0))
  where
    none : (x : ℕ) → length (pick f 0) + x ≡ x + length (pick (λ i. f (suc i)) 0)
    none x = omega arith
length_first f (suc n) =
    let a = length_last f (suc n) in
    let b = length_first f n in
    let c = length_last (λ i. f (suc i)) n in
    omega arith

length_same : (f g : ℕ → Bool) (n : ℕ) → ((j : ℕ) → f j ≡ g j) → length (pick f n) ≡ length (pick g n)
unfolding pick gather
length_same f g zero e = refl
length_same f g (suc n) e = length_last f n ∙ ap₂ (λ (x : ℕ) (b : Bool). x + one b) (length_same f g n e) (e n) ∙ sym (length_last g n)

-- the lowest digit is 1 where timer 0 is in the set
low_digit : (w : ℕ) → one (member w 0) ≡ w % 2
low_digit w = ap one (member_zero w) ∙ digit (w % 2) (omega arith)
  where
    digit : (x : ℕ) → x < 2 → one (eqb x 1) ≡ x
    digit zero h = refl
    digit (suc zero) h = refl
    digit (suc (suc x)) h = absurd (omega arith)

pub ones_pick : (k w : ℕ) → w < 2 ^ k → ones w ≡ length (pick (member w) k)
unfolding pick gather ones
ones_pick zero w h = ap ones (lt-one h)
ones_pick (suc k) w h =
    let a = ones_pick k (w / 2) (half_lt k w h) in
    let b = length_same (λ i. member w (suc i)) (member (w / 2)) k (member_suc w) in
    omega (arith, ones_step w, low_digit w, length_first (member w) k)

pub ones_members : (w : ℕ) → w < 2 ^ 64 → ones w ≡ length (members w)
unfolding members
ones_members w h = ones_pick 64 w h

-- a set whose members are all in another is that set, or has fewer
pub ones_grow : (k a b : ℕ) → a < 2 ^ k → b < 2 ^ k → ((j : ℕ) → j < k → member a j ≡ true → member b j ≡ true) → (a ≡ b) ⊎ (ones a < ones b)
ones_grow zero a b ha hb w = inl (omega arith)
ones_grow (suc k) a b ha hb w =
    let halves = ones_grow k (a / 2) (b / 2) (half_lt k a ha) (half_lt k b hb) within in
    ⊎_elim (λ e. same e (lt_or_le (a % 2) (b % 2))) (λ l. inr (omega (arith, ones_step a, ones_step b, low))) halves
  where
    within : (j : ℕ) → j < k → member (a / 2) j ≡ true → member (b / 2) j ≡ true
    within j l m = sym (member_suc b j) ∙ w (suc j) (omega arith) (member_suc a j ∙ m)

    one_le : (x y : Bool) → (x ≡ true → y ≡ true) → one x ≤ one y
    one_le true y f = rw f (omega arith)
    one_le false y f = omega arith

    low : a % 2 ≤ b % 2
    low = omega (arith, one_le (member a 0) (member b 0) (w 0 (omega arith)), low_digit a, low_digit b)

    same : a / 2 ≡ b / 2 → (a % 2 < b % 2) ⊎ (b % 2 ≤ a % 2) → (a ≡ b) ⊎ (ones a < ones b)
    same e (inl l) = inr (omega (arith, ones_step a, ones_step b, ap ones e))
    same e (inr l) = inl (omega (arith, low))

-- ---- the lowest

pub trailing_lowest : (k w : ℕ) → count_trailing_zeros k w ≡ lowest (member w) k
unfolding count_trailing_zeros lowest
trailing_lowest zero w = refl
trailing_lowest (suc k) w =
    let higher = lowest_same (member (w / 2)) (λ i. member w (suc i)) k (λ j l. sym (member_suc w j)) in
    go (w % 2) refl (omega arith) (trailing_lowest k (w / 2) ∙ higher)
  where
    go : (d : ℕ) → w % 2 ≡ d → d < 2 → count_trailing_zeros k (w / 2) ≡ lowest (λ i. member w (suc i)) k
        → under d (count_trailing_zeros k (w / 2)) ≡ lowest (member w) (suc k)
    go zero e l ih = rw (member_zero w ∙ ap (λ (x : ℕ). eqb x 1) e, lowest) (ap suc ih)
    go (suc zero) e l ih = rw (member_zero w ∙ ap (λ (x : ℕ). eqb x 1) e, lowest)
    go (suc (suc d)) e l ih = absurd (omega arith)

pub lowest_missing_lem : (w : ℕ) → w < 2 ^ 64 → count_trailing_zeros 64 ((2 ^ 64 - 1) - w) ≡ lowest_missing w
unfolding lowest_missing
lowest_missing_lem w h = trailing_lowest 64 _ ∙ lowest_same (member ((2 ^ 64 - 1) - w)) (λ j. not (member w j)) 64 (λ j l. member_not 64 w j h l)
