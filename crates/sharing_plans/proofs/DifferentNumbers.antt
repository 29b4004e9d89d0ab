-- A rising list whose entries have different numbers below n is no longer than n, nor than a list that has all of them; and an element stands in it
-- once. What is hard: the set of the numbers grows with each entry, and it has at most n.
use mathlib.Core.Path.{◌≡◌, refl, sym, ap, ◌∙◌, subst}
use mathlib.Core.Logic.{◌⊎◌, inl, inr}
use mathlib.Core.Bool.{true}
use mathlib.Core.Option.{some, none-ne-some, some-injective}
use mathlib.Core.List.{List, [], ◌∷◌, map}
use Prim.Native.Nat.{ℕ, zero, suc, ◌^◌, ◌≤◌, ◌<◌}
use native.Mathlib.Omega.{arith}
use lib.Count.{ones, ones-le}
use lib.Dec.{eqb}
use lib.ListN.{length, get_elem?}
use Rattle.lists.specs.Lists.{memb, first_of}
use Rattle.lists.specs.Rising.{Rising}
use Rattle.lists.proofs.Bools.{not_both, eqb_self, same_number, lt_or_le}
use Rattle.lists.proofs.Nth.{below_nth}
use Rattle.lists.proofs.Membership.{first_passes, first_before, memb_head, memb_tail, memb_nth, nth_memb, memb_map_out}
use Rattle.lists.proofs.Gather.{rising_below}
use Rattle.timer_set.specs.Members.{member, set_of}
use Rattle.timer_set.proofs.Members.{member_set_of, set_of_lt}
use Rattle.timer_set.proofs.Counts.{ones_grow}

module _ (g : ℕ → ℕ) where
  module _ (n : ℕ) where
    small : (l : List ℕ) → ((j : ℕ) → memb j l ≡ true → g j < n) → set_of (map g l) < 2 ^ n
    small l b = set_of_lt n (map g l) (λ k m. let y = memb_map_out g l k m in subst (λ (k : ℕ). k < n) y.2 (b y.0 y.1))

    -- the set of their numbers has as many
    enough : (limit lo : ℕ) (l : List ℕ) → Rising limit lo l → ((j : ℕ) → memb j l ≡ true → g j < n)
        → ((i j : ℕ) → memb i l ≡ true → memb j l ≡ true → g i ≡ g j → i ≡ j) → length l ≤ ones (set_of (map g l))
    enough limit lo [] r b a = omega arith
    enough limit lo (x ∷ l) r b a =
        go (ones_grow n (set_of (map g l)) (set_of (map g (x ∷ l))) (small l (λ j m. b j (memb_tail j x l m))) (small (x ∷ l) b)
        (λ j h m. within j m))
        (enough limit (suc x) l r.1 (λ j m. b j (memb_tail j x l m)) (λ i j p q. a i j (memb_tail i x l p) (memb_tail j x l q)))
      where
        within : (j : ℕ) → member (set_of (map g l)) j ≡ true → member (set_of (map g (x ∷ l))) j ≡ true
        within j m = member_set_of (map g (x ∷ l)) j ∙ memb_tail j (g x) (map g l) (sym (member_set_of (map g l) j) ∙ m)

        -- the first one's number is not among the others'
        new : memb (g x) (map g l) ≡ true → ⊥
        new m =
            let y = memb_map_out g l (g x) m in
            let same = a x y.0 (memb_head x x l refl) (memb_tail y.0 x l y.1) (sym y.2) in
            omega (arith, same, (rising_below limit (suc x) l r.1 y.0 y.1).0)

        go : (set_of (map g l) ≡ set_of (map g (x ∷ l))) ⊎ (ones (set_of (map g l)) < ones (set_of (map g (x ∷ l))))
            → length l ≤ ones (set_of (map g l))
            → suc (length l) ≤ ones (set_of (map g (x ∷ l)))
        go (inl e) h =
            let in_both = ap (λ (w : ℕ). member w (g x)) e ∙ member_set_of (map g (x ∷ l)) (g x) ∙ memb_head (g x) (g x) (map g l) refl in
            absurd (new (sym (member_set_of (map g l) (g x)) ∙ in_both))
        go (inr h) k = omega arith

    pub few_numbers : (limit lo : ℕ) (l : List ℕ) → Rising limit lo l → ((j : ℕ) → memb j l ≡ true → g j < n)
        → ((i j : ℕ) → memb i l ≡ true → memb j l ≡ true → g i ≡ g j → i ≡ j) → length l ≤ n
    few_numbers limit lo l r b a = omega (arith, enough limit lo l r b a, ones-le n (set_of (map g l)) (small l b))

-- a rising list whose entries are all in another is no longer
pub few_members : (limit lo : ℕ) (l m : List ℕ) → Rising limit lo l → ((x : ℕ) → memb x l ≡ true → memb x m ≡ true) → length l ≤ length m
few_members limit lo l m r within = few_numbers place (length m) limit lo l r (λ x h. inside x (within x h))
    (λ x y h h' e. some-injective _ _ (sym (there x (within x h)) ∙ ap (get_elem? m) e ∙ there y (within y h')))
  where
    -- the place of x in the other list
    place : ℕ → ℕ
    place x = first_of (eqb x) m

    inside : (x : ℕ) → memb x m ≡ true → place x < length m
    inside x h = go (memb_nth m x h) (lt_or_le (place x) (length m))
      where
        go : (i : ℕ) × (get_elem? m i ≡ some x) → (place x < length m) ⊎ (length m ≤ place x) → place x < length m
        go n (inl b) = b
        go n (inr b) = absurd (not_both (eqb_self x) (first_before (eqb x) m n.0 x (omega (arith, below_nth m n.0 n.1)) n.1))

    there : (x : ℕ) → memb x m ≡ true → get_elem? m (place x) ≡ some x
    there x h = let a = first_passes (eqb x) m (inside x h) in a.1 ∙ ap some (sym (same_number a.2))

later : (limit : ℕ) (l : List ℕ) {x y : ℕ} → Rising limit (suc y) l → (i : ℕ) → y ≡ x → get_elem? l i ≡ some x → ⊥
later limit l {x} {y} r i e e' = omega (arith, (rising_below limit (suc y) l r x (nth_memb l i e')).0)

-- an element stands at one place
pub rising_once : (limit lo : ℕ) (l : List ℕ) → Rising limit lo l → (i j : ℕ) {x : ℕ} → get_elem? l i ≡ some x → get_elem? l j ≡ some x → i ≡ j
rising_once limit lo [] r i j e e' = absurd (none-ne-some _ e)
rising_once limit lo (y ∷ l) r zero zero e e' = refl
rising_once limit lo (y ∷ l) r zero (suc j) {x} e e' = absurd (later limit l r.1 j (some-injective _ _ e) e')
rising_once limit lo (y ∷ l) r (suc i) zero {x} e e' = absurd (later limit l r.1 i (some-injective _ _ e') e)
rising_once limit lo (y ∷ l) r (suc i) (suc j) e e' = ap suc (rising_once limit (suc y) l r.1 i j e e')
