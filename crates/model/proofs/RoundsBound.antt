-- Rounds end, by how many locations can have one timer. Hard: rounds go on while any timer is added anywhere, yet the count is of one timer's
-- locations: a timer that one round adds nowhere is added by no later one, so all timers are done by the same round.
use mathlib.Core.Path.{◌≡◌, sym, ap, ◌∙◌}
use mathlib.Core.Logic.{◌⊎◌, inl, inr, ◌↔◌}
use mathlib.Core.Bool.{true}
use Prim.Native.Nat.{ℕ, zero, suc, ◌-◌, ◌^◌, ◌≤◌, ◌<◌}
use native.Mathlib.Omega.{arith}
use lib.Count.{ones, ones-le}
use lib.ListN.{get_or}
use lib.Pow.{pow_pos}
use lib.Seq.{ext_get_or}
use Rattle.timer_set.specs.Members.{member, set_of}
use Rattle.timer_set.proofs.Members.{member_empty, member_full, member_ext, member_set_of, set_of_lt}
use Rattle.timer_set.proofs.Counts.{ones_grow}
use Rattle.lists.specs.Lists.{pick}
use Rattle.lists.proofs.Bools.{lt_or_le, not_both, same_bool}
use Rattle.lists.proofs.Gather.{pick_in, pick_out}
use Rattle.model.specs.Comes.{Shaped}
use Rattle.model.specs.Flow.{Flow, rounds_of}
use Rattle.model.proofs.Rounds.{Under, length_rounds, rounds_beyond, round_mono, rounds_grow, rounds_words}

module _ (f : Flow) where
  -- the locations that have timer j after k rounds, as a set
  abbrev pub locations_with : (k j : ℕ) → ℕ
  locations_with k j = set_of (pick (λ q. member (get_or (rounds_of f k) q 0) j) f.locations)

  module _ (k j : ℕ) where
    with_lt : locations_with k j < 2 ^ f.locations
    with_lt = set_of_lt f.locations (pick _ f.locations) (λ q m. (pick_out _ f.locations q m).0)

    with_iff : (q : ℕ) → (member (locations_with k j) q ≡ true) ↔ (member (get_or (rounds_of f k) q 0) j ≡ true)
    with_iff q = (
      λ m. (pick_out _ f.locations q (sym (member_set_of (pick _ f.locations) q) ∙ m)).1,
      λ h. member_set_of (pick _ f.locations) q ∙ pick_in _ f.locations q (below (lt_or_le q f.locations) h) h,
    )
      where
        below : (q < f.locations) ⊎ (f.locations ≤ q) → member (get_or (rounds_of f k) q 0) j ≡ true → q < f.locations
        below (inl l) h = l
        below (inr l) h = absurd (not_both (rw (rounds_beyond f k q l) at h) (member_empty j))

    -- at most all locations have j; fewer, if one has it not
    pub with_most : ones (locations_with k j) ≤ f.locations
    with_most = ones-le f.locations (locations_with k j) with_lt

    pub with_fewer : (q : ℕ) → q < f.locations → (member (get_or (rounds_of f k) q 0) j ≡ true → ⊥)
        → ones (locations_with k j) < f.locations
    with_fewer q l none = go (ones_grow f.locations (locations_with k j) full with_lt full_lt (λ s b m. member_full f.locations s b))
      where
        full : ℕ
        full = 2 ^ f.locations - 1

        full_lt : full < 2 ^ f.locations
        full_lt = omega (arith, pow_pos f.locations)

        go : (locations_with k j ≡ full) ⊎ (ones (locations_with k j) < ones full) → ones (locations_with k j) < f.locations
        go (inl e) = absurd (none ((with_iff q).0 (ap (λ (w : ℕ). member w q) e ∙ member_full f.locations q l)))
        go (inr h) = omega (arith, ones-le f.locations full full_lt)

  -- the round after k adds j nowhere
  abbrev Still : (j k : ℕ) → Type 0
  Still j k = Under j (rounds_of f (suc k)) (rounds_of f k)

  next : (j k : ℕ) → k ≤ ones (locations_with k j) → Still j k ⊎ (suc k ≤ ones (locations_with (suc k) j))
  next j k h =
      go (ones_grow f.locations (locations_with k j) (locations_with (suc k) j) (with_lt k j) (with_lt (suc k) j)
      (λ q l m. (with_iff (suc k) j q).1 (rounds_grow f j k q ((with_iff k j q).0 m))))
    where
      go : (locations_with k j ≡ locations_with (suc k) j) ⊎ (ones (locations_with k j) < ones (locations_with (suc k) j))
          → Still j k ⊎ (suc k ≤ ones (locations_with (suc k) j))
      go (inl e) = inl (λ q m. (with_iff k j q).0 (ap (λ (w : ℕ). member w q) e ∙ (with_iff (suc k) j q).1 m))
      go (inr l) = inr (omega arith)

  -- the round after k adds j nowhere, or it and each round before it has added j somewhere
  still_or_more : (j k : ℕ) → Still j k ⊎ (suc k ≤ ones (locations_with (suc k) j))
  unfolding rounds_of
  still_or_more j zero = next j 0 (omega arith)
  still_or_more j (suc k) = go (still_or_more j k)
    where
      go : Still j k ⊎ (suc k ≤ ones (locations_with (suc k) j)) → Still j (suc k) ⊎ (suc (suc k) ≤ ones (locations_with (suc (suc k)) j))
      go (inl s) = inl (round_mono f j (rounds_of f (suc k)) (rounds_of f k) s)
      go (inr h) = next j (suc k) h

  module _ (shaped : Shaped f) where
    -- a round that adds no timer changes nothing
    pub none_added : (k : ℕ) → ((j : ℕ) → Still j k) → rounds_of f k ≡ rounds_of f (suc k)
    none_added k u =
        ext_get_or 0 (rounds_of f k) (rounds_of f (suc k)) (length_rounds f k ∙ sym (length_rounds f (suc k)))
        (λ q l. member_ext 64 (get_or (rounds_of f k) q 0) (get_or (rounds_of f (suc k)) q 0) (rounds_words f shaped k q)
        (rounds_words f shaped (suc k) q)
        (λ j b. same_bool _ _ (rounds_grow f j k q) (u j q)))

    -- if at most L locations can have a timer, the round after L changes nothing
    pub still_after : (L : ℕ) → ((k j : ℕ) → ones (locations_with k j) ≤ L) → rounds_of f L ≡ rounds_of f (suc L)
    still_after L most = none_added L (λ j. go j (still_or_more j L))
      where
        go : (j : ℕ) → Still j L ⊎ (suc L ≤ ones (locations_with (suc L) j)) → Still j L
        go j (inl s) = s
        go j (inr h) = absurd (omega (arith, most (suc L) j))
