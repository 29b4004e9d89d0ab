-- Board numbers by first fit, used, and refusal 20 (document 01, "Live, born, family, board number").
use Rattle.std.specs.Prelude.{Bool, true, false, not, ◌||◌, List, [], ◌∷◌, map, ℕ, eqb}
use mathlib.Core.Option.{Option, none, some}
use Rattle.lists.specs.Lists.{memb, lowest, top}
use Rattle.model.specs.Chart.{Chart}
use Rattle.model.specs.Family.{Pairs, Family, has, families, meets, live_pairs}

-- a family with the board number that it was given
pub record Placed : Type 0 where
  pub family : Family
  pub number : ℕ

-- the numbers held by those families of the list that f meets
unfoldable pub held : Family → List Placed → List ℕ
held f [] = []
held f (g ∷ gs) = elim (meets f g.family) [ true ↦ g.number ∷ held f gs | false ↦ held f gs ]

-- the smallest number that is not in the list
unfoldable pub free : List ℕ → ℕ
free l = lowest (λ k. not (memb k l)) (top l)

-- the families in turn, each with the smallest number held by no earlier family that it meets; the last one placed stands first
unfoldable pub place : List Family → List Placed → List Placed
place [] placed = placed
place (f ∷ fs) placed = place fs (record { family = f; number = free (held f placed) } ∷ placed)

-- all families placed
unfoldable pub first_fit : Pairs → List Placed
first_fit p = place (families p) []

-- one more than the largest number given, 0 if there is no family
unfoldable pub used_by : List Placed → ℕ
used_by ps = top (map (λ (g : Placed). g.number) ps)

-- the number of the family that has the pair (q, j); a pair of no family has none
unfoldable pub number_at : List Placed → (q j : ℕ) → Option ℕ
number_at [] q j = none
number_at (g ∷ gs) q j = elim (has g.family q j) [ true ↦ some g.number | false ↦ number_at gs q j ]

-- all K numbers are in the list
unfoldable pub all_held : (K : ℕ) → List ℕ → Bool
all_held K l = eqb (lowest (λ k. not (memb k l)) K) K

-- 20: all K numbers are held by earlier families that the next one meets
unfoldable pub blocked : (K : ℕ) → List Placed → Bool
blocked K [] = false
blocked K (g ∷ earlier) = all_held K (held g.family earlier) || blocked K earlier

-- the families of a chart, each with its board number
unfoldable pub board : Chart → List Placed
board c = first_fit (live_pairs c)

-- how many board timers a chart uses
unfoldable pub used : Chart → ℕ
used c = used_by (board c)
