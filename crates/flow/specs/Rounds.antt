-- Which locations a round has changed, and the edges that leave them.
use Rattle.std.specs.Prelude.{◌≡◌, List, ℕ, ◌<◌, length, get_or}
use Rattle.worklist.specs.Worklist.{Among, Worklist}

-- the locations at which `after` differs from `before` wait; others may wait too
pub record Differing (before after idle waiting : List ℕ) (depth : ℕ) : Type 0 where
  pub long : length after ≡ length before
  pub worklist : Worklist (length after) idle waiting depth
  pub unchanged : (q : ℕ) → q < length after → (get_or idle q 0 ≡ 0 → ⊥) → get_or after q 0 ≡ get_or before q 0

-- edge j leaves one of the first n locations of the list
abbrev pub LeavesOne : List ℕ → List ℕ → ℕ → ℕ → Type 0
LeavesOne from list n j = Among list n (get_or from j 0)
