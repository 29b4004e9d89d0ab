-- Charts and numberings that differ from document 01's where a relation of demand 3 or of plans has to tell them apart, and charts with the most
-- rounds.
use Rattle.std.specs.Prelude.{true, false, List, [], ◌∷◌, ℕ, set}
use mathlib.Core.Option.{none, some}
use Rattle.comparison.specs.declared.Comparison.TheVariants.{AtMost, AtLeast}
use Rattle.model.specs.Chart.{Chart}
use Rattle.model.specs.Run.{Step}
use Rattle.model.specs.Live.{live}
use Rattle.model.specs.Player.{steps_of}
use Rattle.model.specs.Rewrite.{Numbering}
use Rattle.model.specs.Cases.{arrow, test, drawn, A, B}

-- 0 at 5
unfoldable pub one_step : List Step
one_step = steps_of (0 ∷ []) (5 ∷ [])

-- 0, 1 at 5, 7
unfoldable pub two_steps : List Step
two_steps = steps_of (0 ∷ 1 ∷ []) (5 ∷ 7 ∷ [])

-- B, but transition 1 tests timer 0 at most 1, not 2
unfoldable pub stricter : Chart
stricter = drawn 4 3 2 (set B.transitions 1 (arrow 1 2 (1 ∷ []) (test 0 AtMost 1 ∷ [])))

-- B, but location 2 accepts, not 3
unfoldable pub other_end : Chart
other_end = drawn 4 2 2 B.transitions

-- 0→1 starts 0; 1→2 tests 0 at least 0, which every count meets
unfoldable pub started : Chart
started = drawn 3 2 1 (arrow 0 1 (0 ∷ []) [] ∷ arrow 1 2 [] (test 0 AtLeast 0 ∷ []) ∷ [])

-- the same without the start: every step list comes to the same, but the test reads a timer that nothing has started
unfoldable pub not_started : Chart
not_started = drawn 3 2 1 (arrow 0 1 [] [] ∷ arrow 1 2 [] (test 0 AtLeast 0 ∷ []) ∷ [])

-- `started` with a second timer, and one test more that reads it
unfoldable pub one_test_more : Chart
one_test_more = drawn 3 2 2 (arrow 0 1 (0 ∷ 1 ∷ []) [] ∷ arrow 1 2 [] (test 0 AtLeast 0 ∷ test 1 AtLeast 0 ∷ []) ∷ [])

-- 0→1 tests 0 at least 9, and nothing starts it: the starting count decides
unfoldable pub count_decides : Chart
count_decides = drawn 2 1 1 (arrow 0 1 [] (test 0 AtLeast 9 ∷ []) ∷ [])

-- 0→1 starts 0; 1→1 tests 0: as many rounds as locations, the most that an accepted chart can have
unfoldable pub loop_started : Chart
loop_started = drawn 2 1 1 (arrow 0 1 (0 ∷ []) [] ∷ arrow 1 1 [] (test 0 AtLeast 0 ∷ []) ∷ [])

-- the same without the start: it is refused 10, and has one round more
unfoldable pub loop_not_started : Chart
loop_not_started = drawn 2 1 1 (arrow 0 1 [] [] ∷ arrow 1 1 [] (test 0 AtLeast 0 ∷ []) ∷ [])

-- each live timer j with the number f j, wherever it is live
unfoldable pub live_numbers : Chart → (f : ℕ → ℕ) → (used : ℕ) → Numbering
live_numbers c f n = record { number = λ q j. elim (live c q j) [ true ↦ some (f j) | false ↦ none ]; used = n }

-- one number for every live timer of A
unfoldable pub one_number : Numbering
one_number = live_numbers A (λ j. 0) 1

-- each live timer with its own number in the drawn chart
unfoldable pub drawn_numbers : Chart → Numbering
drawn_numbers c = live_numbers c (λ j. j) c.timers
