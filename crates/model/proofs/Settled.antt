-- The rounds end with the first that changes nothing, which is found, and there the sets hold exactly what comes. That there is such a round is shown
-- in RoundsBound.
use mathlib.Core.Path.{◌≡◌, refl, sym, ap, ap₂}
use mathlib.Core.Logic.{◌⊎◌, inl, inr, ◌↔◌}
use mathlib.Core.Bool.{Bool, true, true≢false}
use mathlib.Core.List.{List, [], ◌∷◌}
use Prim.Native.Nat.{ℕ, suc, ◌*◌, ◌≤◌, ◌<◌}
use native.Mathlib.Omega.{arith}
use lib.Count.{ones}
use lib.Dec.{eqb}
use lib.ListN.{length, get_or}
use Rattle.timer_set.specs.Members.{member}
use Rattle.model.specs.Comes.{Comes, Shaped}
use Rattle.lists.proofs.Bools.{lt_or_le, not_both, is_no, and_left, and_right, and_both, eqb_self, same_number}
use Rattle.lists.proofs.Lowest.{lowest_passes, lowest_before, lowest_most, lowest_is}
use Rattle.model.specs.Flow.{Flow, round, rounds_of, same_sets, changing, settled, rounds}
use Rattle.model.proofs.Rounds.{Words, length_rounds, sound, complete, rounds_words}
use Rattle.model.proofs.RoundsBound.{locations_with, with_most, still_after}

-- ---- the same sets

pub same_sets_self : (a : List ℕ) → same_sets a a ≡ true
unfolding same_sets
same_sets_self [] = refl
same_sets_self (x ∷ xs) = and_both (eqb_self x) (same_sets_self xs)

pub same_sets_equal : (a b : List ℕ) → same_sets a b ≡ true → a ≡ b
unfolding same_sets
same_sets_equal [] [] h = refl
same_sets_equal [] (y ∷ ys) h = absurd (true≢false (sym h))
same_sets_equal (x ∷ xs) [] h = absurd (true≢false (sym h))
same_sets_equal (x ∷ xs) (y ∷ ys) h =
    let first = same_number (and_left (eqb x y) (same_sets xs ys) h) in
    ap₂ (λ (z : ℕ) (zs : List ℕ). z ∷ zs) first (same_sets_equal xs ys (and_right (eqb x y) (same_sets xs ys) h))

-- ---- the rounds that change a set

-- each of the first k rounds changes a set
abbrev pub Changes : Flow → ℕ → Type 0
Changes f k = (i : ℕ) → i < k → rounds_of f i ≡ rounds_of f (suc i) → ⊥

-- the rounds end with the round after k
pub record Ends (f : Flow) (k : ℕ) : Type 0 where
  pub settled_is : settled f ≡ rounds_of f k
  pub rounds_are : rounds f ≡ suc k

module _ (f : Flow) where
  -- the round after k changes nothing
  abbrev still : ℕ → Bool
  still k = same_sets (rounds_of f k) (rounds_of f (suc k))

  pub changing_moves : Changes f (changing f)
  unfolding changing
  changing_moves k l e = not_both (rw (← e) (same_sets_self (rounds_of f k))) (lowest_before still (64 * f.locations) k l)

  pub length_settled : length (settled f) ≡ f.locations
  unfolding settled
  length_settled = length_rounds f (changing f)

  module _ (shaped : Shaped f) where
    -- no more rounds change a set than there are locations
    pub few_changes : (k : ℕ) → Changes f k → k ≤ f.locations
    few_changes k m = go (lt_or_le f.locations k)
      where
        go : (f.locations < k) ⊎ (k ≤ f.locations) → k ≤ f.locations
        go (inl l) = absurd (m f.locations l (still_after f shaped f.locations (λ i j. with_most f i j)))
        go (inr l) = l

    -- nor than locations can have a timer
    pub changing_most : (L : ℕ) → ((k j : ℕ) → ones (locations_with f k j) ≤ L) → changing f ≤ L
    unfolding changing
    changing_most L most = lowest_most still (64 * f.locations) L (rw (← still_after f shaped L most) (same_sets_self (rounds_of f L)))

    -- the first round that changes nothing ends them
    pub ends : (k : ℕ) → rounds_of f (suc k) ≡ rounds_of f k → Changes f k → Ends f k
    unfolding settled rounds changing
    ends k e m = record { settled_is = ap (rounds_of f) is; rounds_are = ap suc is }
      where
        is : changing f ≡ k
        is =
            lowest_is still (64 * f.locations) k (omega (arith, few_changes k m)) (λ l. rw e (same_sets_self (rounds_of f k)))
            (λ i l. is_no (still i) (λ t. m i l (same_sets_equal (rounds_of f i) (rounds_of f (suc i)) t)))

    pub settled_still : round f (settled f) ≡ settled f
    unfolding settled rounds_of changing
    settled_still = sym (go (lt_or_le (changing f) (64 * f.locations)))
      where
        go : (changing f < 64 * f.locations) ⊎ (64 * f.locations ≤ changing f) → rounds_of f (changing f) ≡ rounds_of f (suc (changing f))
        go (inl h) = same_sets_equal (rounds_of f (changing f)) (rounds_of f (suc (changing f))) (lowest_passes still (64 * f.locations) h)
        go (inr h) =
            let none : changing f ≡ f.locations = omega (arith, few_changes (changing f) changing_moves) in
            rw none (still_after f shaped f.locations (λ i j. with_most f i j))

    pub settled_words : Words (settled f)
    unfolding settled
    settled_words = rounds_words f shaped (changing f)

    pub settled_iff : (q j : ℕ) → q < f.locations → (member (get_or (settled f) q 0) j ≡ true) ↔ Comes f j q
    unfolding settled
    settled_iff q j l = (sound f (changing f) q j, complete f shaped (settled f) settled_still j q l)
