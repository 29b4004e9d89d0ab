-- The timers of a set, one after another: each turn takes the lowest that is left.
use Rattle.std.specs.Prelude.{◌≡◌, true, ℕ, ◌<◌, Option, Some, None}
use Rattle.timer_set.specs.declared.TimerSet.{TimerSet}
use Rattle.timer_set.specs.declared.Timers.{Timers}
use Rattle.timer_set.specs.Members.{member, removed, lowest_member}

-- j, the lowest timer of w, is taken from it
pub record Taken (w : ℕ) (j : ℕ) (left : ℕ) : Type 0 where
  pub lowest : j ≡ lowest_member w
  pub below : j < 64
  pub is_member : member w j ≡ true
  pub left_is : left ≡ removed w j
  pub fewer : left < w

-- the lowest timer taken from w, or none where there is none
abbrev pub SplitsLowest : (w : ℕ) → Option (ℕ × TimerSet) → Type 0
SplitsLowest w None = w ≡ 0
SplitsLowest w (Some p) = Taken w p.0 p.1.bits

-- a turn takes the lowest timer, or finds none and leaves none
abbrev pub TakesLowest : Timers → Option ℕ → Timers → Type 0
TakesLowest s None t = s.left.bits ≡ 0
TakesLowest s (Some j) t = Taken s.left.bits j t.left.bits

-- none is taken yet
abbrev pub IsAllOf : TimerSet → Timers → Type 0
IsAllOf set timers = timers.left ≡ set
