-- What the search is asked at one point: some families are unplaced, they have no number yet, and each number is held against some families, those
-- that meet a family which has it.
use Rattle.std.specs.Prelude.{◌≡◌, true, List, ℕ, ◌≤◌, ◌<◌, get_or, set}
use Rattle.timer_set.specs.Members.{member, joined}
use Rattle.model.specs.Floor.{most_searched}
use Rattle.smallest_plan.specs.RowPlans.{meet_in, Mutual}

-- f gives the unplaced families numbers below k that are not held against them, and different ones to those that meet
pub record Completes (rows held : List ℕ) (k unplaced : ℕ) (f : ℕ → ℕ) : Type 0 where
  pub below : (i : ℕ) → member unplaced i ≡ true → f i < k
  pub free : (i : ℕ) → member unplaced i ≡ true → member (get_or held (f i) 0) i ≡ true → ⊥
  pub apart : (i j : ℕ) → member unplaced i ≡ true → member unplaced j ≡ true → meet_in rows i j ≡ true → f i ≡ f j → ⊥

-- some f does
pub record Completable (rows held : List ℕ) (k unplaced : ℕ) : Type 0 where
  pub by : ℕ → ℕ
  pub completes : Completes rows held k unplaced by

-- what the search asks of its caller: the unplaced families meet mutually, and the numbers from used on are held against none
pub record SearchReady (rows held : List ℕ) (k unplaced used : ℕ) : Type 0 where
  pub families : ℕ
  pub few_families : families ≤ most_searched
  pub meetings : Mutual rows families
  pub within : (i : ℕ) → member unplaced i ≡ true → i < families
  pub few_numbers : k ≤ most_searched
  pub used_few : used ≤ k
  pub fresh : (c : ℕ) → used ≤ c → get_or held c 0 ≡ 0

-- r is a conflict, a set of unplaced families that no f completes, or empty where some f completes all
pub record Answers (rows held : List ℕ) (k unplaced r : ℕ) : Type 0 where
  pub none : r ≡ 0 → Completable rows held k unplaced
  pub some : (r ≡ 0 → ⊥) → (f : ℕ → ℕ) → Completes rows held k r f → ⊥
  pub within : (i : ℕ) → member r i ≡ true → member unplaced i ≡ true

-- family v takes the number c: it is held, besides, against all that v meets
abbrev pub held_after : (rows held : List ℕ) (v c : ℕ) → List ℕ
held_after rows held v c = set held c (joined (get_or held c 0) (get_or rows v 0))
