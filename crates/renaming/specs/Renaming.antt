-- Drawn timers renamed to board timers, by the cells of a numbering: the sets that transitions start, and the timers of tests.
use Rattle.std.specs.Prelude.{◌≡◌, ◌⊎◌, true, false, List, map, ℕ, ◌+◌, ◌*◌, ◌^◌, ◌≤◌, ◌<◌, ltb, get_or}
use Rattle.timer_set.specs.Members.{member, added}
use Rattle.model.specs.Chart.{Transition, Chart, Nth}
use Rattle.model.specs.Rewrite.{Numbering}
use Rattle.model.specs.Plan.{Has, Numbered}
use Rattle.chart_lists.specs.Begins.{Begins}
use Rattle.allocation.specs.Cells.{cells_of}

-- the cell of (q, j)
abbrev pub cell_at : (cells : List ℕ) → (q j : ℕ) → ℕ
cell_at cells q j = get_or cells (64 * q + j) 0

-- a set with the number of a cell; what is no board timer is left out
unfoldable pub with_number : (w k : ℕ) → ℕ
with_number w k = elim (ltb k 64) [ true ↦ added w k | false ↦ w ]

-- k, a board timer, is the number at q of a timer of the set w
pub record NumberOf (cells : List ℕ) (q w k : ℕ) : Type 0 where
  pub timer : ℕ
  pub below : timer < 64
  pub present : member w timer ≡ true
  pub cell_is : cell_at cells q timer ≡ k
  pub small : k < 64

-- r has the numbers at q of those timers of the set w that are no longer left
pub record RenamedTo (cells : List ℕ) (q w left r : ℕ) : Type 0 where
  pub word : r < 2 ^ 64
  pub sound : (k : ℕ) → (member r k ≡ true) ⊎ NumberOf cells q left k → NumberOf cells q w k
  pub complete : (k : ℕ) → NumberOf cells q w k → (member r k ≡ true) ⊎ NumberOf cells q left k

-- the board timer of a cell, 0 where it is none
unfoldable pub board_timer : ℕ → ℕ
board_timer k = elim (ltb k 64) [ true ↦ k | false ↦ 0 ]

-- the board timers at q of a list of timers
unfoldable pub renamed_row : (cells : List ℕ) → (q : ℕ) → List ℕ → List ℕ
renamed_row cells q ts = map (λ j. board_timer (cell_at cells q j)) ts

-- the cells begin with those of a numbering with at most 64 numbers, by which every timer that is tested has a number where it is tested
pub record CellsOf (c : Chart) (N : Numbering) (cells : List ℕ) : Type 0 where
  pub cells_are : Begins (cells_of N c.locations) cells
  pub few : N.used ≤ 64
  pub below : (q j k : ℕ) → Has N q j k → k < N.used
  pub numbered : (i : ℕ) (r : Transition) → Nth c i r → Numbered N r.source r.tests
