-- Step lists and runs (document 01, "The chart").
use Rattle.std.specs.Prelude.{◌≡◌, Bool, true, false, ◌&&◌, List, [], ◌∷◌, ◌++◌, ℕ, suc, ◌+◌, ◌-◌, leb, eqb}
use mathlib.Core.Option.{none, some}
use lib.ListN.{get_elem?}
use Rattle.comparison.specs.Comparison.{met}
use Rattle.lists.specs.Lists.{memb}
use Rattle.model.specs.Answer.{Answer, returned, refused, then, unless}
use Rattle.model.specs.Chart.{Test, Transition, Chart}

-- the counts of all timers
abbrev pub Counts : Type 0
Counts = ℕ → ℕ

-- all timers grow by d
unfoldable pub grown : ℕ → Counts → Counts
grown d v = λ j. v j + d

-- the started timers become 0
unfoldable pub restarted : List ℕ → Counts → Counts
restarted l v = λ j. elim (memb j l) [ true ↦ 0 | false ↦ v j ]

-- the counts meet every test
unfoldable pub all_met : List Test → Counts → Bool
all_met [] v = true
all_met (t ∷ ts) v = met t.comparison (v t.timer) t.constant && all_met ts v

-- where a run stands, when, and with which counts
pub record State : Type 0 where
  pub location : ℕ
  pub time : ℕ
  pub counts : Counts

-- a transition number and its time
pub record Step : Type 0 where
  pub transition : ℕ
  pub time : ℕ

-- the state after transition r is taken at time t: every timer has grown by the time that passed, then the started ones are 0
unfoldable pub after : Transition → State → ℕ → State
after r s t = record { location = r.target; time = t; counts = restarted r.starts (grown (t - s.time) s.counts) }

-- the condition of 24: the counts, grown by the time that passed, meet every test of the transition
unfoldable pub enabled : Chart → Transition → Counts → Bool
enabled c r v = all_met r.tests v

-- Step number n. `allowed` says which times are taken at all: a step list takes every time, the player those up to 16,777,215 (15).
unfoldable pub attempt : (allowed : ℕ → Bool) → Chart → (n : ℕ) → State → Step → Answer State
attempt allowed c n s e = elim (get_elem? c.transitions e.transition) [
  | none ↦ refused 14 n
  | some r ↦
      unless (allowed e.time) 15 n (
      unless (eqb r.source s.location) 22 n (
      unless (leb s.time e.time) 23 n (
      unless (enabled c r (grown (e.time - s.time) s.counts)) 24 n (
      returned (after r s e.time)))))
]

-- the steps from number n on, each from what the last one left, to the first that is refused
unfoldable pub steps : (allowed : ℕ → Bool) → Chart → (n : ℕ) → State → List Step → Answer State
steps allowed c n s [] = returned s
steps allowed c n s (e ∷ es) = then (attempt allowed c n s e) (λ s'. steps allowed c (suc n) s' es)

-- tick 0 in the initial location, with any counts
unfoldable pub begin : Chart → Counts → State
begin c v = record { location = c.initial; time = 0; counts = v }

-- what a step list comes to, from the beginning
unfoldable pub outcome : (allowed : ℕ → Bool) → Chart → Counts → List Step → Answer State
outcome allowed c v es = steps allowed c 0 (begin c v) es

-- the times of a step list: all
unfoldable pub every_time : ℕ → Bool
every_time t = true

-- the latest time that the player takes, and the largest starting count (15, 12)
abbrev pub largest_time : ℕ
largest_time = 16777215

-- the times of the player
unfoldable pub player_time : ℕ → Bool
player_time t = leb t largest_time

-- a run is a list with no step refused; s is the state that it leaves
pub record Run (c : Chart) (v : Counts) (es : List Step) (s : State) : Type 0 where
  pub ends : outcome every_time c v es ≡ returned s

-- its last location accepts
unfoldable pub accepts : Chart → ℕ → Bool
accepts c q = memb q c.accepting

-- a run that ends in an accepting location
pub record EndsAccepting (c : Chart) (v : Counts) (es : List Step) : Type 0 where
  pub state : State
  pub run : Run c v es state
  pub accepting : accepts c state.location ≡ true

-- a wait of d ticks
unfoldable pub waited : ℕ → State → State
waited d s = record { location = s.location; time = s.time + d; counts = grown d s.counts }

-- a point of a run: its start or a step's end, with any wait in whole ticks after it
pub record Point (c : Chart) (v : Counts) (es : List Step) (s : State) : Type 0 where
  pub taken : List Step
  pub rest : List Step
  pub parts : es ≡ taken ++ rest
  pub left : State
  pub run : Run c v taken left
  pub wait : ℕ
  pub is : s ≡ waited wait left
