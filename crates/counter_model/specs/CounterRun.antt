-- What a step list comes to on the counter board: each step has a transition number and the reading of the counter (document 02, P5).
use mathlib.Core.Option.{none, some}
use Rattle.std.specs.Prelude.{List, [], ◌∷◌, ℕ, suc, eqb}
use lib.ListN.{get_elem?}
use Rattle.model.specs.Answer.{Answer, returned, refused, then, unless}
use Rattle.model.specs.Chart.{Transition, Chart}
use Rattle.model.specs.Run.{Counts, restarted, enabled}
use Rattle.counter_model.specs.Counter.{ticks_passed, risen}

-- where the board stands, the reading at its last step, and the counts
pub record CounterState : Type 0 where
  pub location : ℕ
  pub last : ℕ
  pub counts : Counts

-- the counts at a reading: every timer has grown by the ticks that passed
unfoldable pub counts_at : CounterState → (now : ℕ) → Counts
counts_at s now = risen (ticks_passed s.last now) s.counts

-- the state after transition r is taken at a reading: then the started timers are 0
unfoldable pub counter_after : Transition → CounterState → (now : ℕ) → CounterState
counter_after r s now = record { location = r.target; last = now; counts = restarted r.starts (counts_at s now) }

-- step number n takes transition i at a reading: 14, 22, 24 in this order; every reading will do
unfoldable pub counter_attempt : Chart → (n : ℕ) → CounterState → (i now : ℕ) → Answer CounterState
counter_attempt c n s i now = elim (get_elem? c.transitions i) [
  | none ↦ refused 14 n
  | some r ↦
      unless (eqb r.source s.location) 22 n (
      unless (enabled c r (counts_at s now)) 24 n (
      returned (counter_after r s now)))
]

-- the steps from number n on, each from what the last one left, to the first that is refused; as many as the shorter list has
unfoldable pub counter_steps : Chart → (n : ℕ) → CounterState → (transitions readings : List ℕ) → Answer CounterState
counter_steps c n s [] rs = returned s
counter_steps c n s (i ∷ is) [] = returned s
counter_steps c n s (i ∷ is) (now ∷ rs) = then (counter_attempt c n s i now) (λ s'. counter_steps c (suc n) s' is rs)

-- tick 0 in the initial location, with any counts; the first step counts from the reading at tick 0
unfoldable pub counter_begin : Chart → (first : ℕ) → Counts → CounterState
counter_begin c first v = record { location = c.initial; last = first; counts = v }

-- what a step list comes to, from the beginning
unfoldable pub counter_outcome : Chart → (first : ℕ) → Counts → (transitions readings : List ℕ) → Answer CounterState
counter_outcome c first v is rs = counter_steps c 0 (counter_begin c first v) is rs
