-- How one family gets its number: a set of timers at each location says which families have it, rows of cells say which numbers stand there, and
-- words of held numbers say the same of the lower numbers.
use Rattle.std.specs.Prelude.{◌≡◌, Bool, true, false, ◌&&◌, ◌||◌, List, ℕ, zero, suc, ◌+◌, ◌*◌, ◌≤◌, ◌<◌, eqb, length, get_or}
use Rattle.timer_set.specs.Members.{member, added}
use Rattle.chart_lists.specs.Limits.{most_locations}
use Rattle.allocation.specs.Cells.{no_number}

-- where the cell of (s, i) stands in the list of cells
abbrev pub cell_place : (s i : ℕ) → ℕ
cell_place s i = 64 * s + i

-- where word v of location s stands in the list of held numbers
abbrev pub word_place : (s v : ℕ) → ℕ
word_place s v = most_locations * v + s

-- so many words of 64 numbers are kept for each location; the numbers in them; the list's length
abbrev pub held_words : ℕ
held_words = 8

abbrev pub held_numbers : ℕ
held_numbers = 64 * held_words

abbrev pub held_length : ℕ
held_length = most_locations * held_words

-- some number below n passes
unfoldable pub any_below : (ℕ → Bool) → ℕ → Bool
any_below f zero = false
any_below f (suc n) = any_below f n || f n

-- location s is of the family of timer j
abbrev pub in_family : (sets : List ℕ) → (j s : ℕ) → Bool
in_family sets j s = member (get_or sets s 0) j

-- k stands in one of the first cells of the row of location s
unfoldable pub in_row : (cells : List ℕ) → (s k columns : ℕ) → Bool
in_row cells s k columns = any_below (λ i. eqb (get_or cells (cell_place s i) 0) k) columns

-- f holds of one of the first locations that are of the family
unfoldable pub some_in : (sets : List ℕ) → (j : ℕ) → (ℕ → Bool) → (locations : ℕ) → Bool
some_in sets j f locations = any_below (λ s. in_family sets j s && f s) locations

-- k stands in the row of one of the family's locations
unfoldable pub taken : (sets cells : List ℕ) → (j k : ℕ) → Bool
taken sets cells j k = some_in sets j (λ s. in_row cells s k 64) (length sets)

-- x is in word w of the numbers held at location s
abbrev pub in_word : (held : List ℕ) → (s w x : ℕ) → Bool
in_word held s w x = member (get_or held (word_place s w) 0) x

-- a list of rows once an entry of the column has a new value in the rows of the family's locations: the entry of row s and column i
unfoldable pub changed : (place : ℕ → ℕ → ℕ) → (sets : List ℕ) → (j column : ℕ) → (value : ℕ → ℕ) → (before : List ℕ) → (s i : ℕ) → ℕ
changed place sets j column value before s i =
    elim (eqb column i && in_family sets j s) [ true ↦ value (get_or before (place s i) 0) | false ↦ get_or before (place s i) 0 ]

-- the cell of (s, i) once the family has its number
unfoldable pub given : (sets : List ℕ) → (j number : ℕ) → (before : List ℕ) → (s i : ℕ) → ℕ
given sets j number = changed cell_place sets j j (λ _. number)

-- word v of the numbers held at s once the family holds x of word w
unfoldable pub holding : (sets : List ℕ) → (j w x : ℕ) → (before : List ℕ) → (s v : ℕ) → ℕ
holding sets j w x = changed word_place sets j w (λ word. added word x)

-- i is in the word of location s once the family of timer j is marked with its place
unfoldable pub marked : (sets : List ℕ) → (j place : ℕ) → (before : List ℕ) → (s i : ℕ) → Bool
marked sets j place before s i = member (get_or before s 0) i || (eqb i place && in_family sets j s)

-- what the code asks for its safety
pub record Lengths (sets cells held : List ℕ) : Type 0 where
  pub few_locations : length sets ≤ most_locations
  pub cells_long : length cells ≡ 64 * length sets
  pub held_long : length held ≡ held_length

-- the words of held numbers say of the numbers that they have in which rows these stand
unfoldable pub WordsAgree : (cells held : List ℕ) → (locations : ℕ) → Type 0
WordsAgree cells held locations = (s w x : ℕ) → s < locations → w < held_words → x < 64 → in_word held s w x ≡ in_row cells s (64 * w + x) 64

-- the locations of the family of timer j are at or above from and below end
pub record Within (sets : List ℕ) (j from end : ℕ) : Type 0 where
  pub low : (s : ℕ) → in_family sets j s ≡ true → from ≤ s
  pub high : (s : ℕ) → in_family sets j s ≡ true → s < end
  pub ordered : from ≤ end
  pub inside : end ≤ length sets

-- no cell of the family of timer j has a number
unfoldable pub Unnumbered : (sets : List ℕ) → (j : ℕ) → (cells : List ℕ) → Type 0
Unnumbered sets j cells = (s : ℕ) → s < length sets → in_family sets j s ≡ true → get_or cells (cell_place s j) 0 ≡ no_number

-- the families of the set's timers can be given numbers
pub record Ready (sets : List ℕ) (roots from end : ℕ) (cells held : List ℕ) : Type 0 where
  pub lengths : Lengths sets cells held
  pub words_agree : WordsAgree cells held (length sets)
  pub within : (j : ℕ) → member roots j ≡ true → Within sets j from end
  pub unnumbered : (j : ℕ) → member roots j ≡ true → Unnumbered sets j cells
