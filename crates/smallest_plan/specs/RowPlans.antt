-- Plans over rows: families are the numbers below n, and row i is the set of the families that family i meets. Which number of timers is the
-- smallest, with no word of any search.
use Rattle.std.specs.Prelude.{◌≡◌, Bool, true, false, List, ℕ, ◌≤◌, ◌<◌, get_or}
use Rattle.timer_set.specs.Members.{member}

unfoldable pub meet_in : (rows : List ℕ) (i j : ℕ) → Bool
meet_in rows i j = member (get_or rows i 0) j

-- meeting is mutual, and no family meets itself
pub record Mutual (rows : List ℕ) (n : ℕ) : Type 0 where
  pub both : (i j : ℕ) → i < n → j < n → meet_in rows i j ≡ true → meet_in rows j i ≡ true
  pub other : (i : ℕ) → i < n → meet_in rows i i ≡ false

-- a plan with k timers for the families below n: meeting families have different numbers
pub record RowPlan (rows : List ℕ) (n k : ℕ) (f : ℕ → ℕ) : Type 0 where
  pub below : (i : ℕ) → i < n → f i < k
  pub apart : (i j : ℕ) → i < n → j < n → meet_in rows i j ≡ true → f i ≡ f j → ⊥

-- every plan has at least low timers, and some plan has high
pub record Bounds (rows : List ℕ) (n low high : ℕ) : Type 0 where
  pub by : ℕ → ℕ
  pub plan : RowPlan rows n high by
  pub least : (k : ℕ) (f : ℕ → ℕ) → RowPlan rows n k f → low ≤ k

-- m is the smallest number of timers in any plan
abbrev pub SmallestOf : (rows : List ℕ) → (n m : ℕ) → Type 0
SmallestOf rows n m = Bounds rows n m m
