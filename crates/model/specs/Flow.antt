-- Sets of timers that pass along edges, by rounds: each round makes every location's set from the sets of the round before, the first from empty
-- ones, to the first round that changes no set.
use Rattle.std.specs.Prelude.{Bool, true, false, ◌&&◌, ℕ, zero, suc, ◌*◌, eqb, get_or, replicate}
use mathlib.Core.List.{List, [], ◌∷◌, foldl}
use Rattle.timer_set.specs.Members.{joined, minus}
use Rattle.lists.specs.Lists.{lowest, up_to}

-- what stands at `from` passes to `into`, but for `cut`, and `gain` joins it
pub record Edge : Type 0 where
  pub into : ℕ
  pub from : ℕ
  pub cut : ℕ
  pub gain : ℕ

-- a number of locations, each with a set of its own, and the edges between them
pub record Flow : Type 0 where
  pub locations : ℕ
  pub own : ℕ → ℕ
  pub edges : List Edge

-- what an edge brings, from the sets of the round before
unfoldable pub brings : List ℕ → Edge → ℕ
brings before e = joined e.gain (minus (get_or before e.from 0) e.cut)

-- the set of q: its own, joined with what each edge into q brings
unfoldable pub made : Flow → List ℕ → ℕ → ℕ
made f before q = foldl (λ w e. elim (eqb e.into q) [ true ↦ joined w (brings before e) | false ↦ w ]) (f.own q) f.edges

-- one round: all sets anew
unfoldable pub round : Flow → List ℕ → List ℕ
round f before = up_to (made f before) f.locations

-- the sets after k rounds, the first from empty ones
unfoldable pub rounds_of : Flow → ℕ → List ℕ
rounds_of f zero = replicate f.locations 0
rounds_of f (suc k) = round f (rounds_of f k)

-- no set differs
unfoldable pub same_sets : List ℕ → List ℕ → Bool
same_sets [] [] = true
same_sets [] (y ∷ ys) = false
same_sets (x ∷ xs) [] = false
same_sets (x ∷ xs) (y ∷ ys) = eqb x y && same_sets xs ys

-- how many rounds change a set before the first that changes none: at most one for each timer of each location
unfoldable pub changing : Flow → ℕ
changing f = lowest (λ k. same_sets (rounds_of f k) (rounds_of f (suc k))) (64 * f.locations)

-- the sets that the last round leaves
unfoldable pub settled : Flow → List ℕ
settled f = rounds_of f (changing f)

-- the number of rounds, the last one counted
unfoldable pub rounds : Flow → ℕ
rounds f = suc (changing f)
