-- The chart rewritten by a numbering (document 01, "Live, born, family, board number"; document 02, P6 and P7).
use Rattle.std.specs.Prelude.{◌≡◌, true, false, ℕ, ◌<◌, get_or}
use mathlib.Core.Option.{Option, none, some}
use mathlib.Core.List.{List, map, filter_map}
use Rattle.timer_set.specs.Members.{member}
use Rattle.lists.specs.Lists.{memb, pick}
use Rattle.model.specs.Chart.{Test, Transition, Chart, tested}
use Rattle.model.specs.Live.{live_sets}
use Rattle.model.specs.Spare.{reached_part, spare_cleared}
use Rattle.model.specs.Twins.{lowest_twin}
use Rattle.model.specs.FirstFit.{Placed, number_at, used_by, board}

-- a board number for each timer that is live at a location, none for the others, and how many numbers are used
pub record Numbering : Type 0 where
  pub number : (q j : ℕ) → Option ℕ
  pub used : ℕ

-- the numbering that placed families give
unfoldable pub numbering : List Placed → Numbering
numbering ps = record { number = number_at ps; used = used_by ps }

-- a numbering read through f: a timer of the set at q has the number that f of it has there, any other timer none
unfoldable pub through : (sets : List ℕ) → (f : ℕ → ℕ) → Numbering → Numbering
through sets f N = record {
  number = λ q j. elim (member (get_or sets q 0) j) [ true ↦ N.number q (f j) | false ↦ none ];
  used = N.used;
}

-- the board numbers of a chart: each live timer has that of its lowest twin
unfoldable pub board_numbering : Chart → Numbering
board_numbering c = through (live_sets c) (lowest_twin c) (numbering (board c))

-- a test reads the number that its timer has at q
unfoldable pub renamed : Test → Option ℕ → Option Test
renamed t none = none
renamed t (some k) = some (record { timer = k; comparison = t.comparison; constant = t.constant })

-- the tests rewritten; one whose timer has no number is left out
unfoldable pub new_tests : Numbering → (q : ℕ) → List Test → List Test
new_tests N q ts = filter_map (λ t. renamed t (N.number q t.timer)) ts

-- the numbers at the target of the timers born on r: those that r starts and that have a number there; rising, each once
unfoldable pub new_starts : Numbering → Transition → List ℕ
new_starts N r = let born = filter_map (N.number r.target) r.starts in pick (λ k. memb k born) N.used

-- a transition rewritten: its tests by the numbers at its source, its starts by those at its target
unfoldable pub new_transition : Numbering → Transition → Transition
new_transition N r = record {
  source = r.source;
  target = r.target;
  event = r.event;
  starts = new_starts N r;
  tests = new_tests N r.source r.tests;
}

-- the chart rewritten by any numbering; it has the version of the chart drawn
unfoldable pub rewritten_by : Numbering → Chart → Chart
rewritten_by N c = record {
  version = c.version;
  locations = c.locations;
  initial = c.initial;
  timers = N.used;
  accepting = c.accepting;
  transitions = map (new_transition N) c.transitions;
}

-- the rewritten chart: by first fit's board numbers of the part that counts; transitions that leave a spare location have no tests and no starts
unfoldable pub rewritten : Chart → Chart
rewritten c = let N = board_numbering (reached_part c) in rewritten_by N (spare_cleared c)

-- the timers that the transition names are below the limit
pub record NamesBelow (limit : ℕ) (r : Transition) : Type 0 where
  pub starts : (k : ℕ) → memb k r.starts ≡ true → k < limit
  pub tests : (k : ℕ) → tested k r.tests ≡ true → k < limit
