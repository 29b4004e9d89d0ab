-- Edges that have been gone over: each has brought to the location that it leads into what stood at the one that it leaves, but for what it cuts, and
-- the locations whose sets have grown wait.
use Rattle.std.specs.Prelude.{◌≡◌, ◌⊎◌, true, false, List, ℕ, ◌<◌, length, get_or}
use Rattle.timer_set.specs.Members.{member}

-- timer b comes to q along one of the edges gone over, from what stood at the location that it leaves
pub record Brought (from into cut : List ℕ) (Gone : ℕ → Type 0) (stood : ℕ → ℕ) (q b : ℕ) : Type 0 where
  pub edge : ℕ
  pub below : edge < length from
  pub gone : Gone edge
  pub leads : get_or into edge 0 ≡ q
  pub stands : member (stood (get_or from edge 0)) b ≡ true
  pub uncut : member (get_or cut edge 0) b ≡ false

-- sets and idle before, and after; Gone says which edges have been gone over, stood what stood at each location then
pub record GoneOver (from into cut : List ℕ) (Gone : ℕ → Type 0) (stood : ℕ → ℕ) (sets idle after idleAfter : List ℕ) : Type 0 where
  pub long : length after ≡ length sets
  pub kept : (q b : ℕ) → member (get_or sets q 0) b ≡ true → member (get_or after q 0) b ≡ true
  pub only : (q b : ℕ) → member (get_or after q 0) b ≡ true → (member (get_or sets q 0) b ≡ true) ⊎ Brought from into cut Gone stood q b
  pub brought : (q b : ℕ) → Brought from into cut Gone stood q b → member (get_or after q 0) b ≡ true
  -- a location that is idle was idle before, and its set has not grown
  pub still_idle : (q : ℕ) → (get_or idleAfter q 0 ≡ 0 → ⊥) → (get_or idle q 0 ≡ 0 → ⊥) × (get_or after q 0 ≡ get_or sets q 0)

-- edge j leaves q
abbrev pub Leaves : List ℕ → ℕ → ℕ → Type 0
Leaves from q j = get_or from j 0 ≡ q
