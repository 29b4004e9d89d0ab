-- The counts of the 64 timers that a chart can have, as the code keeps them.
use Rattle.std.specs.Prelude.{◌≡◌, true, false, List, ℕ, ◌+◌, ◌≤◌, ◌<◌, length, get_or}
use Rattle.timer_set.specs.Members.{member}
use Rattle.model.specs.Run.{Counts, largest_time}

-- a list of 64 counts agrees with the counts of a run
pub record CountsAgree (counts : List ℕ) (v : Counts) : Type 0 where
  pub same : (j : ℕ) → j < 64 → get_or counts j 0 ≡ v j

-- 64 counts, none of which passes 32 binary digits when it grows by d
pub record Room (counts : List ℕ) (d : ℕ) : Type 0 where
  pub number : length counts ≡ 64
  pub fits : (j : ℕ) → j < 64 → get_or counts j 0 + d < 4294967296

-- the count of timer j after a step: 0 if it is started, else grown by d
unfoldable pub count_after : (starts d j count : ℕ) → ℕ
count_after starts d j count = elim (member starts j) [ true ↦ 0 | false ↦ count + d ]

-- all 64 counts after a step
pub record MovedOn (starts d : ℕ) (before after : List ℕ) : Type 0 where
  pub number : length after ≡ 64
  pub count : (j : ℕ) → j < 64 → get_or after j 0 ≡ count_after starts d j (get_or before j 0)

-- at most 64 starting counts, none over 16,777,215
pub record Allowed (counts : List ℕ) : Type 0 where
  pub few : length counts ≤ 64
  pub small : (j : ℕ) → j < length counts → get_or counts j 0 ≤ largest_time

-- 64 counts: those of the list, and 0 for the rest
pub record Starting (counts all : List ℕ) : Type 0 where
  pub number : length all ≡ 64
  pub same : (j : ℕ) → get_or all j 0 ≡ get_or counts j 0
