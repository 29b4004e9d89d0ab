-- States that a relation of the promise has to tell apart: of two heads with chart B, and of one with the chart `choice`.
use Rattle.std.specs.Prelude.{List, [], ◌∷◌, ℕ}
use Rattle.controller_model.specs.declared.Controller.{Controller}
use Rattle.controller_model.specs.Serving.{standing, taken, Done}
use Rattle.controller_model.specs.Cases.{state_with, waiting_at}

-- both heads at location 0 at tick 0, with these counts
unfoldable pub both_at_start : (counts : List ℕ) → Controller
both_at_start v = state_with 0 (standing 0 0) (standing 0 0) v

-- what set-up leaves of `two_b`
unfoldable pub started : Controller
started = both_at_start (7 ∷ 7 ∷ 0 ∷ 0 ∷ [])

-- head 0 at this location at 8, with these counts of its two timers; all else is as set-up leaves it, but for the turn
unfoldable pub first_at : (location count₀ count₁ : ℕ) → Controller
first_at q v w = state_with 1 (standing q 8) (standing 0 0) (v ∷ w ∷ 0 ∷ 0 ∷ [])

-- head 0's turn; at head 1 event 0 waits, of time 5
unfoldable pub second_waits : Controller
second_waits = state_with 0 (standing 0 0) (waiting_at 0 0 1 5) (7 ∷ 7 ∷ 0 ∷ 0 ∷ [])

-- a head of chart `choice` at location 1 at 10, with count 0; event 0 waits at it, of time 12: it can take the transitions 1 and 2
unfoldable pub choosing : Controller
choosing = state_with 0 (waiting_at 1 10 1 12) (standing 0 0) (0 ∷ 0 ∷ 0 ∷ 0 ∷ [])

-- it is reported to take transition i, and left at location q at 12, with count 2
unfoldable pub chosen : (i q : ℕ) → Done
chosen i q = record { state = state_with 0 (standing q 12) (standing 0 0) (2 ∷ 0 ∷ 0 ∷ 0 ∷ []); report = taken 0 i }
