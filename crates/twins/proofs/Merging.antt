-- The image of a set, its timers taken one by one, and a list that a loop fills with what each entry of another gives.
use mathlib.Core.Path.{◌≡◌, sym, ap, ◌∙◌}
use mathlib.Core.Logic.{◌⊎◌, inl, inr, ⊎_elim}
use mathlib.Core.Bool.{true, false, ◌&&◌, not}
use mathlib.Core.List.{List, map, map-append}
use Prim.Native.Nat.{ℕ, suc, ◌^◌, ◌≤◌, ◌<◌}
use native.Mathlib.Omega.{arith}
use lib.Dec.{eqb}
use lib.ListN.{length, get_or, set, take}
use lib.Seq.{take_all, take-suc, take-suc-set}
use Rattle.lists.proofs.Bools.{yes_or_no, not_both, or_cases, or_left, or_right, and_left, and_right, and_both, same_bool, same_number, eqb_self}
use Rattle.lists.proofs.Bools.{lt_or_le}
use Rattle.timer_set.specs.Members.{member, common, minus, added, removed, image}
use Rattle.timer_set.proofs.Members.{member_empty, member_common, member_minus, member_added, member_removed, member_high, member_ext}
use Rattle.timer_set.proofs.Members.{common_lt, added_lt}
use Rattle.timer_set.proofs.Images.{image_in, image_out, image_lt}
use Rattle.twins.specs.LowestTwins.{lowest_at, LowestListed}

-- r has what f gives for those timers of the set w that are no longer left
pub record MergedTo (f : ℕ → ℕ) (w left r : ℕ) : Type 0 where
  pub word : r < 2 ^ 64
  pub within : (j : ℕ) → member left j ≡ true → member w j ≡ true
  pub sound : (k : ℕ) → member r k ≡ true → (j : ℕ) × (member w j ≡ true) × (f j ≡ k)
  pub complete : (j : ℕ) → member w j ≡ true → (member r (f j) ≡ true) ⊎ (member left j ≡ true)

module _ (f : ℕ → ℕ) (w : ℕ) where
  -- the timers that f leaves are taken at once
  pub merged_first : w < 2 ^ 64 → (own : ℕ) → ((j : ℕ) → member w j ≡ true → member own j ≡ eqb (f j) j)
      → MergedTo f w (minus w own) (common w own)
  merged_first h own is = record {
    word = common_lt 64 w own h;
    within = λ j m. and_left _ _ (sym (member_minus w own j) ∙ m);
    sound = λ k m.
        let b : (member w k && member own k) ≡ true = sym (member_common w own k) ∙ m in
        let in-w = and_left (member w k) (member own k) b in
        (k, in-w, same_number (sym (is k in-w) ∙ and_right (member w k) (member own k) b));
    complete = λ j m. go j m (yes_or_no (member own j));
  }
    where
      go : (j : ℕ) → member w j ≡ true → (member own j ≡ true) ⊎ (member own j ≡ false)
          → (member (common w own) (f j) ≡ true) ⊎ (member (minus w own) j ≡ true)
      go j m (inl e) =
          let p : f j ≡ j = same_number (sym (is j m) ∙ e) in
          inl (rw p (member_common w own j ∙ and_both m e))
      go j m (inr e) = inr (member_minus w own j ∙ and_both m (ap not e))

  -- one timer more
  pub merged_more : (left i r : ℕ) → member left i ≡ true → f i < 64 → MergedTo f w left r → MergedTo f w (removed left i) (added r (f i))
  merged_more left i r h l s = record {
    word = added_lt 64 r (f i) s.word l;
    within = λ j m. s.within j (and_left _ _ (sym (member_removed left i j) ∙ m));
    sound = λ k m. ⊎_elim (s.sound k) (λ e. (i, s.within i h, sym (same_number e))) (or_cases (member r k) (sym (member_added r (f i) k) ∙ m));
    complete = λ j m. ⊎_elim (λ a. inl (member_added r (f i) (f j) ∙ or_left _ a)) (λ a. later j a (yes_or_no (eqb j i))) (s.complete j m);
  }
    where
      later : (j : ℕ) → member left j ≡ true → (eqb j i ≡ true) ⊎ (eqb j i ≡ false)
          → (member (added r (f i)) (f j) ≡ true) ⊎ (member (removed left i) j ≡ true)
      later j a (inl e) = let p : j ≡ i = same_number e in inl (rw p (member_added r (f i) (f i) ∙ or_right (member r (f i)) (eqb_self (f i))))
      later j a (inr e) = inr (member_removed left i j ∙ and_both a (ap not e))

  -- none is left
  pub merged_all : w < 2 ^ 64 → ((j : ℕ) → member w j ≡ true → f j < 64) → {r : ℕ} → MergedTo f w 0 r → r ≡ image f w
  merged_all h below {r} s = member_ext 64 r (image f w) s.word (image_lt f w h 64 below) (λ k l. same_bool _ _ (there k) (back k))
    where
      there : (k : ℕ) → member r k ≡ true → member (image f w) k ≡ true
      there k m = let x = s.sound k m in rw (← x.2) (image_in f w h x.0 x.1)

      back : (k : ℕ) → member (image f w) k ≡ true → member r k ≡ true
      back k m =
          let x = image_out f w h k m in
          rw (← x.2) (⊎_elim (λ a. a) (λ a. absurd (not_both a (member_empty x.0))) (s.complete x.0 x.1))

-- a timer of a set is one of the 64, and so is its lowest twin
pub low_small : {w : ℕ} {lowest : List ℕ} → LowestListed w lowest → w < 2 ^ 64 → (j : ℕ) → member w j ≡ true → lowest_at lowest j < 64
low_small {w} {lowest} s h j m = go (lt_or_le j 64)
  where
    go : (j < 64) ⊎ (64 ≤ j) → lowest_at lowest j < 64
    go (inl l) = omega (arith, s.low j m)
    go (inr l) = absurd (not_both m (member_high 64 w j h l))

-- a set of fewer timers
pub listed_fewer : {w : ℕ} {lowest : List ℕ} → LowestListed w lowest → (v : ℕ) → ((j : ℕ) → member v j ≡ true → member w j ≡ true)
    → LowestListed v lowest
listed_fewer s v in-w = record { listed = λ j m. s.listed j (in-w j m); low = λ j m. s.low j (in-w j m) }

-- ---- a loop that fills a mapped list

module _ (f : ℕ → ℕ) (from to : List ℕ) (i : ℕ) (long : length to ≡ length from) (done : take i to ≡ map f (take i from)) where
  pub mapped_more : i < length from → take (suc i) (set to i (f (get_or from i 0))) ≡ map f (take (suc i) from)
  mapped_more h = rw (take-suc-set to i _ (omega arith), done, take-suc from i 0 h, map-append)

  pub mapped_all : length from ≤ i → to ≡ map f from
  mapped_all h = sym (take_all i to (omega arith)) ∙ done ∙ ap (map f) (take_all i from h)
