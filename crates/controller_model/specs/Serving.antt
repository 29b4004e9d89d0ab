-- What a turn does: the head whose turn it is serves the event that waits at it (document 02, P4).
use Rattle.std.specs.Prelude.{Bool, true, false, ◌&&◌, not, List, ℕ, ◌+◌, ◌-◌, ◌%◌, eqb, length, get_or, set}
use mathlib.Core.Option.{none, some}
use lib.ListN.{get_elem?}
use Rattle.lists.specs.Lists.{first_of, up_to}
use Rattle.model.specs.Chart.{Transition, Chart}
use Rattle.model.specs.Run.{State, grown, enabled, after, waited}
use Rattle.controller_model.specs.declared.Head.{Head}
use Rattle.controller_model.specs.declared.Controller.{Controller}
use Rattle.controller_model.specs.Parts.{offset, stretch, written}

-- a head at a location at a time, no event waiting
abbrev pub standing : (location time : ℕ) → Head
standing q t = record { location = q; time = t; waiting = 0; event = 0; waiting_time = 0 }

abbrev pub head_at : Controller → (h : ℕ) → Head
head_at s h = get_or s.heads h (standing 0 0)

-- an event waits at the head
unfoldable pub waits : Head → Bool
waits d = not (eqb d.waiting 0)

-- a head as the player's state; its own counts, and 0 for every timer that its chart does not have
unfoldable pub state_of : Head → (own : List ℕ) → State
state_of d own = record { location = d.location; time = d.time; counts = λ j. get_or own j 0 }

-- transition r leaves the present location at event e, and its tests are met at time t
unfoldable pub can_take : Chart → State → (e t : ℕ) → Transition → Bool
can_take c x e t r = eqb r.source x.location && (eqb r.event e && enabled c r (grown (t - x.time) x.counts))

-- the lowest of them, or the number of transitions
unfoldable pub lowest_to_take : Chart → State → (e t : ℕ) → ℕ
lowest_to_take c x e t = first_of (can_take c x e t) c.transitions

-- what transition i, taken at time t, leaves; where there is no transition i, time and counts alone move on
unfoldable pub left_by : Chart → State → (i t : ℕ) → State
left_by c x i t = elim (get_elem? c.transitions i) [ none ↦ waited (t - x.time) x | some r ↦ after r x t ]

-- what a call reports: the event waits at its head; nothing waited at the head whose turn it was; it took no transition; it took one
pub data Report : Type 0 where
  received : Report
  nothing : (head : ℕ) → Report
  none_taken : (head : ℕ) → Report
  taken : (head transition : ℕ) → Report

unfoldable pub report_of : Chart → (h i : ℕ) → Report
report_of c h i = elim (get_elem? c.transitions i) [ none ↦ none_taken h | some r ↦ taken h i ]

-- what a call comes to that is not refused
pub record Done : Type 0 where
  pub state : Controller
  pub report : Report

-- turns go round the heads
unfoldable pub next_turn : (heads h : ℕ) → ℕ
next_turn n h = (h + 1) % n

-- nothing waits at the head whose turn it is: the turn alone moves on
unfoldable pub passed : (heads : ℕ) → Controller → Done
passed n s = record {
  state = record { turn = next_turn n s.turn; heads = s.heads; counts = s.counts };
  report = nothing s.turn;
}

-- head h is left in the state x, its chart's timers standing from o on
unfoldable pub leave : (heads : ℕ) → Chart → (h o : ℕ) → State → Controller → Controller
leave n c h o x s = record {
  turn = next_turn n h;
  heads = set s.heads h (standing x.location x.time);
  counts = written o (up_to x.counts c.timers) s.counts;
}

-- head h serves the event that waits at it
unfoldable pub served : (heads : ℕ) → (blocks : List ℕ) → Chart → (h : ℕ) → Controller → Done
served n blocks c h s =
    let d = head_at s h in
    let o = offset blocks h in
    let x = state_of d (stretch o c.timers s.counts) in
    let i = lowest_to_take c x d.event d.waiting_time in
    record { state = leave n c h o (left_by c x i d.waiting_time) s; report = report_of c h i }

unfoldable pub turned : (blocks : List ℕ) → List Chart → Controller → Done
turned blocks cs s = elim (waits (head_at s s.turn)) [
  | false ↦ passed (length cs) s
  | true ↦ elim (get_elem? cs s.turn) [ none ↦ passed (length cs) s | some c ↦ served (length cs) blocks c s.turn s ]
]
