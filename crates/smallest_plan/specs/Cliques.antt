-- What a lower bound by families that meet pairwise is: how many numbers any f needs that gives meeting candidates different ones.
use Rattle.std.specs.Prelude.{◌≡◌, true, false, List, ℕ, ◌≤◌, ◌<◌}
use Rattle.timer_set.specs.Members.{member}
use Rattle.model.specs.Floor.{most_searched}
use Rattle.smallest_plan.specs.RowPlans.{meet_in}

-- the candidates are families, and none meets itself
pub record Candidates (rows : List ℕ) (w : ℕ) : Type 0 where
  pub below : (i : ℕ) → member w i ≡ true → i < most_searched
  pub other : (i : ℕ) → member w i ≡ true → meet_in rows i i ≡ false

-- f gives the candidates numbers below k, and different ones to those that meet
pub record Apart (rows : List ℕ) (k w : ℕ) (f : ℕ → ℕ) : Type 0 where
  pub below : (i : ℕ) → member w i ≡ true → f i < k
  pub apart : (i j : ℕ) → member w i ≡ true → member w j ≡ true → meet_in rows i j ≡ true → f i ≡ f j → ⊥

-- with at least `least` numbers, such an f needs at least r
pub record NumbersNeeded (rows : List ℕ) (w least r : ℕ) : Type 0 where
  pub needed : (k : ℕ) (f : ℕ → ℕ) → Apart rows k w f → least ≤ k → r ≤ k
