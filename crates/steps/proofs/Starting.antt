-- Starting counts: the 64 counts that the steps begin with, and the state at tick 0 that has them. Past its end a list counts as 0.
use mathlib.Core.Path.{◌≡◌, refl, sym, ◌∙◌}
use mathlib.Core.Logic.{◌⊎◌, inl, inr}
use mathlib.Core.List.{List, ◌++◌}
use Prim.Native.Nat.{ℕ, ◌-◌, ◌≤◌, ◌<◌}
use native.Mathlib.Omega.{arith}
use lib.ListN.{length, get_or, drop, replicate, length-append, length-replicate, get_or-append, get_or-eq_default}
use lib.Seq.{get_or-append_right}
use Rattle.std.proofs.lemmas.List.{drop-replicate}
use Rattle.lists.proofs.Bools.{lt_or_le}
use Rattle.lists.proofs.Zeros.{get_d_zeros}
use Rattle.model.specs.Chart.{Chart}
use Rattle.model.specs.Run.{begin, largest_time}
use Rattle.steps.specs.Counts.{Allowed, Starting}
use Rattle.steps.specs.Stepping.{Shows, Small}
use Rattle.steps.proofs.Attempts.{next_state}

-- the counts over the front of 64 zeros
pub starting_put : (counts front : List ℕ) → length counts ≤ 64 → front ≡ counts → Starting counts (front ++ drop (length counts) (replicate 64 0))
starting_put counts front h e = rw (e, drop-replicate {X = ℕ} (length counts) 64 0) (record {
  number = simp (length-append, length-replicate) (omega arith);
  same = λ j. at j (lt_or_le j (length counts));
})
  where
    rest : List ℕ
    rest = replicate (64 - length counts) 0

    at : (j : ℕ) → (j < length counts) ⊎ (length counts ≤ j) → get_or (counts ++ rest) j 0 ≡ get_or counts j 0
    at j (inl l) = get_or-append counts rest 0 j l
    at j (inr l) =
        get_or-append_right counts rest j 0 l ∙ get_d_zeros (64 - length counts) (j - length counts) ∙ sym (get_or-eq_default counts 0 (omega arith))

-- ---- the state at tick 0

module _ {counts all : List ℕ} (s : Starting counts all) where
  pub starting_small : Allowed counts → (q : ℕ) → Small (next_state q 0 all)
  starting_small a q = record { number = s.number; bound = λ j h. rw (s.same j) (at j (lt_or_le j (length counts))) }
    where
      at : (j : ℕ) → (j < length counts) ⊎ (length counts ≤ j) → get_or counts j 0 ≤ largest_time
      at j (inl l) = a.small j l
      at j (inr l) = omega (arith, get_or-eq_default counts 0 l)

  pub starting_shows : (c : Chart) (q : ℕ) → q ≡ c.initial → Shows (next_state q 0 all) (begin c (λ j. get_or counts j 0))
  unfolding begin
  starting_shows c q e = record { location = e; time = refl; counts = record { same = λ j h. s.same j } }
