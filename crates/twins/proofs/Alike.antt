-- The timers that are in the same sets as one of them, found by narrowing: the sets that are gone over, and those to come, tell together what all of
-- them do.
use mathlib.Core.Path.{◌≡◌, refl, sym, ap, ◌∙◌}
use mathlib.Core.Bool.{Bool, true, false, ◌||◌, ◌&&◌, not, xor, and_assoc}
use mathlib.Core.List.{List, [], ◌∷◌}
use Prim.Native.Nat.{ℕ, ◌+◌, ◌-◌, ◌^◌, ◌≤◌, ◌<◌}
use native.Mathlib.Numerals.{add-one}
use native.Mathlib.Omega.{arith}
use lib.ListN.{length, get_or, drop, drop_of_length-le}
use lib.Seq.{drop-cons}
use Rattle.lists.specs.Lists.{any_of}
use Rattle.lists.proofs.Bools.{and_both}
use Rattle.lists.proofs.Lowest.{lowest_most, lowest_passes, lowest_before, lowest_is}
use Rattle.timer_set.specs.Members.{member, common, minus, lowest_member}
use Rattle.timer_set.proofs.Members.{member_common, member_minus, member_full}
use Rattle.model.specs.Twins.{in_same_sets, lowest_in_same}
use Rattle.model.proofs.Twins.{same_as_itself}
use Rattle.twins.specs.LowestTwins.{narrowed}

-- both or neither
same : (a b : Bool) → Bool
same a b = not (xor a b)

same_self : (a : Bool) → same a a ≡ true
unfolding xor same
same_self true = refl
same_self false = refl

-- ---- one set

module _ (w s j : ℕ) where
  pub narrowed_yes : member s j ≡ true → narrowed w s j ≡ common w s
  unfolding narrowed
  narrowed_yes e = rw (e, narrowed)

  pub narrowed_no : member s j ≡ false → narrowed w s j ≡ minus w s
  unfolding narrowed
  narrowed_no e = rw (e, narrowed)

  member_narrowed : (k : ℕ) → member (narrowed w s j) k ≡ (member w k && same (member s j) (member s k))
  unfolding xor same
  member_narrowed k = go (member s j) refl (member s k) refl
    where
      go : (a : Bool) → member s j ≡ a → (b : Bool) → member s k ≡ b → member (narrowed w s j) k ≡ (member w k && same a b)
      go true e true f = rw (narrowed_yes e, member_common, f)
      go true e false f = rw (narrowed_yes e, member_common, f)
      go false e true f = rw (narrowed_no e, member_minus, f)
      go false e false f = rw (narrowed_no e, member_minus, f)

-- ---- a list of sets

module _ (j k : ℕ) where
  in_same_cons : (w : ℕ) (ws : List ℕ) → in_same_sets (w ∷ ws) j k ≡ (same (member w j) (member w k) && in_same_sets ws j k)
  unfolding in_same_sets any_of same
  in_same_cons w ws = go (xor (member w j) (member w k))
    where
      go : (a : Bool) → not (a || any_of (λ v. xor (member v j) (member v k)) ws) ≡ (not a && not (any_of (λ v. xor (member v j) (member v k)) ws))
      go true = refl
      go false = refl

  in_same_none : in_same_sets [] j k ≡ true
  unfolding in_same_sets any_of
  in_same_none = refl

-- of the timers up to j those in w are in the same sets as j, of the first i
pub record Alike (sets : List ℕ) (j i w : ℕ) : Type 0 where
  pub own : member w j ≡ true
  pub told : (k : ℕ) → k ≤ j → in_same_sets sets j k ≡ (member w k && in_same_sets (drop i sets) j k)

module _ (sets : List ℕ) (j : ℕ) where
  pub alike_first : j < 64 → Alike sets j 0 (2 ^ 64 - 1)
  alike_first h = record {
    own = member_full 64 j h;
    told = λ k l. sym (ap (λ (b : Bool). b && in_same_sets sets j k) (member_full 64 k (omega arith)));
  }

  module _ {i w : ℕ} (a : Alike sets j i w) where
    pub alike_next : i < length sets → Alike sets j (i + 1) (narrowed w (get_or sets i 0) j)
    alike_next h = record {
      own = member_narrowed w (get_or sets i 0) j j ∙ and_both a.own (same_self _);
      told = λ k l. a.told k l ∙ rw (drop-cons sets i 0 h, in_same_cons, member_narrowed, add-one, and_assoc);
    }

    pub alike_low : lowest_member w ≤ j
    unfolding lowest_member
    alike_low = lowest_most (member w) 64 j a.own

    -- if it is in the same sets, the lowest of them is the lowest of all
    lowest_alike : in_same_sets sets j (lowest_member w) ≡ true → (n : ℕ) → j < n → lowest_member w ≡ lowest_in_same sets n j
    unfolding lowest_member lowest_in_same
    lowest_alike passes n h =
        sym (lowest_is (in_same_sets sets j) n (lowest_member w) (omega (arith, alike_low)) (λ l. passes)
        (λ k l. a.told k (omega (arith, alike_low)) ∙ ap (λ (b : Bool). b && in_same_sets (drop i sets) j k) (lowest_before (member w) 64 k l)))

    -- none is lower than j
    pub alike_own : lowest_member w ≡ j → (n : ℕ) → j < n → j ≡ lowest_in_same sets n j
    alike_own e n h = sym e ∙ lowest_alike (rw e (same_as_itself sets j)) n h

    -- all sets are gone over
    pub alike_all : length sets ≤ i → j < 64 → (n : ℕ) → j < n → lowest_member w ≡ lowest_in_same sets n j
    unfolding lowest_member
    alike_all e b =
        let passes = lowest_passes (member w) 64 (omega (arith, alike_low)) in
        lowest_alike (a.told (lowest_member w) alike_low ∙ rw (drop_of_length-le sets e, in_same_none) (and_both passes refl))
