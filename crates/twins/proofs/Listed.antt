-- For callers: the list that `lowest_twins` fills serves sets of the timers that it lists, and what is merged or shared by it is so by any function
-- that agrees with it on the timers of the sets.
use mathlib.Core.Path.{◌≡◌, sym, ap, ◌∙◌}
use mathlib.Core.Logic.{◌⊎◌, inl, inr}
use mathlib.Core.Bool.{true, false}
use mathlib.Core.List.{List, map}
use Prim.Native.Nat.{ℕ, ◌^◌, ◌≤◌, ◌<◌}
use native.Mathlib.Omega.{arith}
use lib.Dec.{eqb}
use lib.ListN.{length, get_or, length-map}
use lib.Seq.{ext_get_or}
use Rattle.lists.specs.Lists.{pick}
use Rattle.lists.proofs.Bools.{yes_or_no, same_bool}
use Rattle.lists.proofs.Gather.{pick_in, pick_out}
use Rattle.lists.proofs.Nth.{get_d_map_all}
use Rattle.timer_set.specs.Members.{member, image}
use Rattle.timer_set.proofs.Members.{member_set_of}
use Rattle.timer_set.proofs.Images.{image_same, image_empty}
use Rattle.model.specs.Rewrite.{Numbering, through}
use Rattle.model.specs.Twins.{lowest_in_same}
use Rattle.model.proofs.Through.{through_in, through_out}
use Rattle.allocation.specs.Cells.{cell, cells_of}
use Rattle.allocation.proofs.CellList.{cells_length, cells_at, cells_is}
use Rattle.twins.specs.LowestTwins.{own_lowest, lowest_at, LowestOf}
use Rattle.model.proofs.Twins.{lowest_low}

module _ (ws : List ℕ) (n j : ℕ) where
  member_own : j < n → member (own_lowest ws n) j ≡ eqb (lowest_in_same ws n j) j
  unfolding own_lowest
  member_own h = member_set_of (pick (λ i. eqb (lowest_in_same ws n i) i) n) j
      ∙ same_bool _ _ (λ m. (pick_out (λ i. eqb (lowest_in_same ws n i) i) n j m).1) (pick_in (λ i. eqb (lowest_in_same ws n i) i) n j h)

-- sets of timers that are listed with their lowest twins
pub lowest_of : (ws sets lowest : List ℕ) (n own : ℕ) → n ≤ length lowest → ((j : ℕ) → j < n → lowest_at lowest j ≡ lowest_in_same ws n j)
    → own ≡ own_lowest ws n → ((q j : ℕ) → q < length sets → member (get_or sets q 0) j ≡ true → j < n) → LowestOf sets lowest own
lowest_of ws sets lowest n own long is e below = record {
  each = λ q h. record {
    listed = λ j m. omega (arith, below q j h m);
    low = λ j m. rw (is j (below q j h m)) (lowest_low ws n j);
  };
  own_are = λ q h j m. rw (e, is j (below q j h m)) (member_own ws n j (below q j h m));
}

-- functions that agree on the timers of the sets
module _ (f g : ℕ → ℕ) (sets : List ℕ) (same : (q j : ℕ) → q < length sets → member (get_or sets q 0) j ≡ true → f j ≡ g j) where
  pub merged_same : ((q : ℕ) → q < length sets → get_or sets q 0 < 2 ^ 64) → map (image f) sets ≡ map (image g) sets
  merged_same word = ext_get_or 0 (map (image f) sets) (map (image g) sets) (length-map sets (image f) ∙ sym (length-map sets (image g))) (λ q b.
      let h : q < length sets = omega (arith, length-map sets (image f)) in
      get_d_map_all (image f) (image_empty f) sets q
      ∙ image_same f (get_or sets q 0) (word q h) g (λ j. same q j h)
      ∙ sym (get_d_map_all (image g) (image_empty g) sets q))

  pub shared_same : (N : Numbering) → cells_of (through sets f N) (length sets) ≡ cells_of (through sets g N) (length sets)
  shared_same N = cells_is (through sets g N) (length sets) (cells_of (through sets f N) (length sets))
      (cells_length (through sets f N) (length sets))
      (λ q j h b. cells_at (through sets f N) (length sets) q j h b ∙ ap cell (go q j h (yes_or_no (member (get_or sets q 0) j))))
    where
      go : (q j : ℕ) → q < length sets → (member (get_or sets q 0) j ≡ true) ⊎ (member (get_or sets q 0) j ≡ false)
          → (through sets f N).number q j ≡ (through sets g N).number q j
      go q j h (inl m) = through_in sets f N q j m ∙ ap (N.number q) (same q j h m) ∙ sym (through_in sets g N q j m)
      go q j h (inr m) = through_out sets f N q j m ∙ sym (through_out sets g N q j m)
