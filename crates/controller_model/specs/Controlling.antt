-- The calls of a controller: set-up, event and turn, with their refusals in order, and what a list of calls comes to (document 02, P4).
use Rattle.std.specs.Prelude.{Bool, true, false, ◌&&◌, ◌||◌, not, List, [], ◌∷◌, ◌++◌, ℕ, zero, suc, ◌+◌, leb, ltb, eqb}
use Rattle.std.specs.Prelude.{length, get_or, set, replicate}
use mathlib.Core.Option.{none, some}
use lib.ListN.{get_elem?}
use Rattle.lists.specs.Lists.{up_to}
use Rattle.model.specs.Answer.{Answer, returned, refused, then, unless, nowhere}
use Rattle.model.specs.Chart.{Chart}
use Rattle.model.specs.Run.{Step, largest_time}
use Rattle.controller_model.specs.declared.Head.{Head}
use Rattle.controller_model.specs.declared.Controller.{Controller}
use Rattle.controller_model.specs.declared.Heads.{Heads}
use Rattle.controller_model.specs.declared.Parts.{Parts}
use Rattle.controller_model.specs.Parts.{offset, every_below, stretch, written}
use Rattle.controller_model.specs.Heads.{head_counts, set_up_judged, heads_judged}
use Rattle.controller_model.specs.Serving.{standing, head_at, waits, Report, received, nothing, none_taken, taken, Done, turned}

-- ---- set-up

-- a head at the initial location of its chart at tick 0; all 0 where there is no such head
unfoldable pub start_head : List Chart → (h : ℕ) → Head
start_head cs h = elim (get_elem? cs h) [ none ↦ standing 0 0 | some c ↦ standing c.initial 0 ]

-- the counts of the first n heads from the beginnings of their blocks on, over 64 zeros
unfoldable pub start_counts : (blocks : List ℕ) → (counts : ℕ → List ℕ) → (n : ℕ) → List ℕ
start_counts blocks counts zero = replicate 64 0
start_counts blocks counts (suc n) = written (offset blocks n) (counts n) (start_counts blocks counts n)

-- the turn is head 0's
unfoldable pub at_start : (blocks : List ℕ) → (counts : ℕ → List ℕ) → List Chart → Controller
at_start blocks counts cs = record {
  turn = 0;
  heads = up_to (start_head cs) 8;
  counts = start_counts blocks counts (length cs);
}

unfoldable pub set_up : (files : List ℕ) → Heads → (K : ℕ) → (counts : List ℕ) → Parts → Answer Controller
set_up files hs K counts ns =
    then (set_up_judged files hs K counts ns) (λ cs.
    returned (at_start hs.blocks (head_counts counts ns) cs))

-- ---- the state handed in: 32

-- where an event waits, its time is neither over 16,777,215 nor before its head's
unfoldable pub sound_waiting : Head → Bool
sound_waiting d = not (waits d) || (leb d.waiting_time largest_time && leb d.time d.waiting_time)

-- a head of chart c with its own counts
unfoldable pub sound_head : Chart → Head → (own : List ℕ) → Bool
sound_head c d own =
    ltb d.location c.locations
    && (leb d.time largest_time
    && (sound_waiting d
    && every_below (λ j. leb (get_or own j 0) (d.time + largest_time)) c.timers))

unfoldable pub sound_at : (blocks : List ℕ) → List Chart → Controller → (h : ℕ) → Bool
sound_at blocks cs s h = elim (get_elem? cs h) [
  | none ↦ true
  | some c ↦ sound_head c (head_at s h) (stretch (offset blocks h) c.timers s.counts)
]

-- 32 does not refuse the state
unfoldable pub sound_state : (blocks : List ℕ) → List Chart → Controller → Bool
sound_state blocks cs s = ltb s.turn (length cs) && every_below (sound_at blocks cs s) (length cs)

-- the heads, then the state by 32
unfoldable pub state_judged : (files : List ℕ) → Heads → (K : ℕ) → Controller → Answer (List Chart)
state_judged files hs K s =
    then (heads_judged files hs K) (λ cs.
    unless (sound_state hs.blocks cs s) 32 nowhere (
    returned cs))

-- ---- event and turn

pub data Call : Type 0 where
  event : (head event time : ℕ) → Call
  turn : Call

-- event e at time t waits at head h from now on
unfoldable pub receive : (h e t : ℕ) → Controller → Controller
receive h e t s = let d = head_at s h in record {
  turn = s.turn;
  heads = set s.heads h (record { location = d.location; time = d.time; waiting = 1; event = e; waiting_time = t });
  counts = s.counts;
}

-- there is such a head, and nothing waits at it
unfoldable pub free : (heads : ℕ) → Controller → (h : ℕ) → Bool
free n s h = ltb h n && not (waits (head_at s h))

-- on judged heads and a sound state: for an event 26, 15, then 23
unfoldable pub done_by : (blocks : List ℕ) → List Chart → Controller → Call → Answer Done
done_by blocks cs s (event h e t) =
    unless (free (length cs) s h) 26 nowhere (
    unless (leb t largest_time) 15 nowhere (
    unless (leb (head_at s h).time t) 23 nowhere (
    returned (record { state = receive h e t s; report = received }))))
done_by blocks cs s turn = returned (turned blocks cs s)

-- a call after set-up, on the state that is handed in, whatever it is
unfoldable pub called : (files : List ℕ) → Heads → (K : ℕ) → Controller → Call → Answer Done
called files hs K s k = then (state_judged files hs K s) (λ cs. done_by hs.blocks cs s k)

-- the state that a call leaves; a refused one changes nothing
abbrev pub state_after : Controller → Answer Done → Controller
state_after s (returned d) = d.state
state_after s (refused n p) = s

abbrev pub state_set_up : Controller → Answer Controller → Controller
state_set_up s (returned s₀) = s₀
state_set_up s (refused n p) = s

-- the answer without what it brings
unfoldable pub verdict_of : {A : Type 0} → Answer A → Answer (Unit {0})
verdict_of x = then x (λ _. returned tt)

-- what a turn reports
unfoldable pub reported : Answer Done → Answer Report
reported x = then x (λ d. returned d.report)

-- ---- lists of calls

-- the step of head h that a report on the state s tells of: its time is that of the event that waited
unfoldable pub step_of : (h : ℕ) → Controller → Report → List Step
step_of h s received = []
step_of h s (nothing g) = []
step_of h s (none_taken g) = []
step_of h s (taken g i) = elim (eqb g h) [ true ↦ record { transition = i; time = (head_at s h).waiting_time } ∷ [] | false ↦ [] ]

abbrev pub steps_in : (h : ℕ) → Controller → Answer Done → List Step
steps_in h s (returned d) = step_of h s d.report
steps_in h s (refused n p) = []

module _ (files : List ℕ) (hs : Heads) (K : ℕ) where
  -- the state after the calls of a list
  unfoldable pub after_calls : Controller → List Call → Controller
  after_calls s [] = s
  after_calls s (k ∷ ks) = after_calls (state_after s (called files hs K s k)) ks

  -- the steps that head h took, at their events' times
  unfoldable pub took : (h : ℕ) → Controller → List Call → List Step
  took h s [] = []
  took h s (k ∷ ks) = steps_in h s (called files hs K s k) ++ took h (state_after s (called files hs K s k)) ks

-- how many of the calls are turns
unfoldable pub turns_in : List Call → ℕ
turns_in [] = 0
turns_in (event h e t ∷ ks) = turns_in ks
turns_in (turn ∷ ks) = suc (turns_in ks)
