-- The numbers of lowest twins, handed to all timers of the sets.
use Rattle.std.specs.Prelude.{◌≡◌, true, false, List, ℕ, ◌+◌, ◌*◌, ◌≤◌, ◌<◌, length, get_or}
use mathlib.Core.Option.{none}
use Rattle.timer_set.specs.Members.{member}
use Rattle.model.specs.Rewrite.{Numbering}
use Rattle.allocation.specs.Cells.{no_number}
use Rattle.twins.specs.LowestTwins.{lowest_at}

-- the cell of (q, j): that of the lowest twin where j is in the set w, else that of no number
unfoldable pub shared_cell : (w : ℕ) → (lowest cells : List ℕ) → (q j : ℕ) → ℕ
shared_cell w lowest cells q j = elim (member w j) [ true ↦ get_or cells (64 * q + lowest_at lowest j) 0 | false ↦ no_number ]

-- the cells of row q from j on are so shared, and all others are as they were
pub record RowShared (w : ℕ) (lowest : List ℕ) (q : ℕ) (before : List ℕ) (j : ℕ) (after : List ℕ) : Type 0 where
  pub done : (i : ℕ) → j ≤ i → i < 64 → get_or after (64 * q + i) 0 ≡ shared_cell w lowest before q i
  pub lower : (x : ℕ) → x < 64 * q + j → get_or after x 0 ≡ get_or before x 0
  pub behind : (x : ℕ) → 64 * q + 64 ≤ x → get_or after x 0 ≡ get_or before x 0

-- the numbering gives a number at a location only to timers of its set
pub record OnlyIn (sets : List ℕ) (N : Numbering) : Type 0 where
  pub no_other : (q j : ℕ) → q < length sets → member (get_or sets q 0) j ≡ false → N.number q j ≡ none
