-- The player on a chart that the reader yields: 9, 10, 12, 13, then step by step 14, 15, 22, 23, 24 (document 01, "Turned down ..").
use Rattle.std.specs.Prelude.{Bool, not, List, [], ◌∷◌, ℕ, leb, eqb, length, get_or}
use Rattle.lists.specs.Lists.{lowest}
use Rattle.model.specs.Answer.{Answer, returned, then, unless, nowhere}
use Rattle.model.specs.Chart.{Chart}
use Rattle.model.specs.Run.{Counts, State, Step, outcome, largest_time, player_time, accepts}
use Rattle.model.specs.Judge.{judged}

-- where a list of steps ends
pub record Arrival : Type 0 where
  pub location : ℕ
  pub time : ℕ
  pub accepting : Bool

-- the arrival of a state
unfoldable pub arrival : Chart → State → Answer Arrival
arrival c s = returned (record { location = s.location; time = s.time; accepting = accepts c s.location })

-- the answer of a step list: what it comes to, without the counts
unfoldable pub answer_of : (allowed : ℕ → Bool) → Chart → Counts → List Step → Answer Arrival
answer_of allowed c v es = then (outcome allowed c v es) (arrival c)

-- a count over 16,777,215
unfoldable pub too_large : List ℕ → ℕ → Bool
too_large counts j = not (leb (get_or counts j 0) largest_time)

-- 12 without a place of its own for a wrong number of counts, else at the lowest timer whose count is too large
unfoldable pub counts_judged : {A : Type 0} → Chart → (counts : List ℕ) → Answer A → Answer A
counts_judged c counts x =
    let first = lowest (too_large counts) c.timers in
    unless (eqb (length counts) c.timers) 12 nowhere (
    unless (leb c.timers first) 12 first x)

-- the steps that two lists give, as long as the shorter
unfoldable pub steps_of : (transitions times : List ℕ) → List Step
steps_of [] ts = []
steps_of (i ∷ is) [] = []
steps_of (i ∷ is) (t ∷ ts) = record { transition = i; time = t } ∷ steps_of is ts

-- what the player makes of a chart that is judged
abbrev pub played_on : (counts is ts : List ℕ) → Chart → Answer Arrival
played_on counts is ts c =
    counts_judged c counts (
    unless (eqb (length is) (length ts)) 13 nowhere (
    answer_of player_time c (λ j. get_or counts j 0) (steps_of is ts)))

-- the player on a chart: the judgement first
unfoldable pub played : Chart → (counts transitions times : List ℕ) → Answer Arrival
played c counts is ts = then (judged c) (played_on counts is ts)
