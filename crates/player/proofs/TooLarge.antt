-- The lowest starting count that is too large, looked for one count a turn. None before the turn's is.
use mathlib.Core.Path.{◌≡◌, sym, ap}
use mathlib.Core.Bool.{false, not}
use mathlib.Core.List.{List}
use Prim.Native.Nat.{ℕ, ◌+◌, ◌≤◌, ◌<◌}
use native.Mathlib.Omega.{arith}
use lib.ListN.{length, get_or}
use borrow.Author.Count.{below_more}
use borrow.Author.Tests.{le-leb, lt-leb}
use Rattle.lists.specs.Lists.{lowest}
use Rattle.lists.proofs.Lowest.{lowest_is}
use Rattle.model.specs.Run.{largest_time}
use Rattle.model.specs.Player.{too_large}

-- no count before j is too large
pub record SmallTo (counts : List ℕ) (j : ℕ) : Type 0 where
  pub before : (k : ℕ) → k < j → too_large counts k ≡ false

module _ (counts : List ℕ) where
  pub small_none : SmallTo counts 0
  small_none = record { before = λ k h. absurd (omega arith) }

  pub small_more : (j : ℕ) → get_or counts j 0 ≤ largest_time → SmallTo counts j → SmallTo counts (j + 1)
  unfolding too_large
  small_more j h s =
      let here = ap not (le-leb (get_or counts j 0) largest_time h) in
      record { before = below_more (λ (k : ℕ). too_large counts k ≡ false) j s.before here }

  pub large_here : (j : ℕ) → j < length counts → largest_time < get_or counts j 0 → SmallTo counts j → j ≡ lowest (too_large counts) (length counts)
  unfolding too_large
  large_here j l h s =
      let here = ap not (lt-leb (get_or counts j 0) largest_time h) in
      sym (lowest_is (too_large counts) (length counts) j (omega arith) (λ q. here) s.before)

  pub large_none : (j : ℕ) → length counts ≤ j → SmallTo counts j → length counts ≡ lowest (too_large counts) (length counts)
  large_none j h s =
      let n = length counts in
      sym (lowest_is (too_large counts) n n (omega arith) (λ q. absurd (omega arith)) (λ k l. s.before k (omega arith)))
