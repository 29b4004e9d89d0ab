-- The program's whole output for its whole input (document 01, "What the four parts hand back"; document 02, P1 and P7): one byte K, then a chart
-- file.
use Rattle.std.specs.Prelude.{Bool, true, false, List, [], ◌∷◌, ◌++◌, ℕ, leb, length}
use mathlib.Core.Option.{Option, none, some}
use Rattle.lists.specs.Lists.{gather}
use Rattle.model.specs.Answer.{Answer, returned, refused, then, nowhere}
use Rattle.model.specs.Chart.{Chart}
use Rattle.model.specs.Spare.{reached_part}
use Rattle.model.specs.Floor.{floor, searched}
use Rattle.model.specs.Rewrite.{Numbering, board_numbering}
use Rattle.model.specs.Judge.{fitted, rewriting}
use Rattle.file_format.specs.File.{chart_in}
use Rattle.numbering.specs.declared.FileNumbers.{FileNumbers}
use Rattle.numbering.specs.FileNumbers.{file_numbers}
use Rattle.listing.specs.Text.{decimal, space, line_feed, refused_word, used_word, floor_word, seen_word, limit_word, at_word, greater}

-- the bytes that an input may have
abbrev pub largest_input : ℕ
largest_input = 65536

-- bytes enough for every text
abbrev pub largest_text : ℕ
largest_text = 131072

-- the line of a refusal
unfoldable pub refused_text : (number place : ℕ) → List ℕ
refused_text n p = refused_word ++ (decimal n ++ (space ∷ (decimal p ++ (line_feed ∷ []))))

-- the word before the floor: a floor that was not searched for is only what was seen at one location
abbrev pub word_of : (searched : Bool) → List ℕ
word_of true = floor_word
word_of false = seen_word

-- the first line of a chart's text
unfoldable pub first_line : (used floor : ℕ) → (searched : Bool) → (K : ℕ) → List ℕ
first_line u f s k = used_word ++ (decimal u ++ (word_of s ++ (decimal f ++ (limit_word ++ (decimal k ++ (line_feed ∷ []))))))

-- a live timer with its board number; a timer that is not live has none
abbrev pub entry_text : (j : ℕ) → Option ℕ → List ℕ
entry_text j none = []
entry_text j (some c) = space ∷ (decimal j ++ (greater ∷ decimal c))

-- the line of location q: its live timers with the numbers that N gives them there
unfoldable pub line_of : (timers : ℕ) → Numbering → (q : ℕ) → List ℕ
line_of timers N q = at_word ++ (decimal q ++ (gather (λ j. entry_text j (N.number q j)) timers ++ (line_feed ∷ [])))

-- the text of a chart: the first line, then a line for each location. Its numbers are those of the part that counts, so that the line of a location
-- that no path reaches names no timer
unfoldable pub chart_text : (K : ℕ) → Chart → List ℕ
chart_text k c = let part = reached_part c in let N = board_numbering part in
    first_line N.used (floor part) (searched part) k ++ gather (line_of c.timers N) c.locations

-- the chart, judged as the rewriting judges it, with room enough
unfoldable pub accepted : (K : ℕ) → List ℕ → Answer Chart
accepted k file = then (chart_in file) (λ c. then (rewriting k c) (λ x. returned c))

-- the same of a chart that is judged already: 11, then 20
unfoldable pub listed_chart : (K : ℕ) → Chart → Answer Chart
listed_chart k c = then (fitted k c) (λ x. returned c)

-- the numbers of the file's chart, where it is accepted
unfoldable pub board_numbers : (K : ℕ) → List ℕ → Answer FileNumbers
board_numbers k file = then (accepted k file) (λ c. returned (file_numbers c))

-- the text of a chart that is accepted, or of its refusal
abbrev pub answer_text : (K : ℕ) → Answer Chart → List ℕ
answer_text k (returned c) = chart_text k c
answer_text k (refused n p) = refused_text n p

-- no input at all is refusal 1; 16 comes before all others
unfoldable pub text_of : List ℕ → List ℕ
text_of [] = refused_text 1 nowhere
text_of (k ∷ file) = elim (leb (length (k ∷ file)) largest_input) [
  | false ↦ refused_text 16 nowhere
  | true ↦ answer_text k (accepted k file)
]
