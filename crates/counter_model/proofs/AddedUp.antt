-- The counter board answers what the step list comes to whose times the readings add up to, for all readings, if no constant is over 65,535. Hard:
-- both are stepped at once, and the counts of the board are those of the steps only up to 65,536.
use mathlib.Core.Path.{◌≡◌, refl, sym, ap, ◌∙◌, subst₂}
use mathlib.Core.Bool.{false}
use mathlib.Core.Option.{Option, none, some}
use mathlib.Core.List.{List, [], ◌∷◌}
use Prim.Native.Nat.{ℕ, suc, ◌+◌}
use native.Mathlib.Nat.{add-sub_cancel_left}
use native.Mathlib.Omega.{arith}
use lib.Dec.{eqb}
use lib.ListN.{get_elem?}
use borrow.Author.Tests.{le-leb}
use Rattle.model.specs.Answer.{Answer, returned, refused, then, unless}
use Rattle.model.specs.Chart.{Transition, Chart, Nth}
use Rattle.model.specs.Version.{large_constant}
use Rattle.model.specs.Run.{Counts, State, Step, after, enabled, attempt, steps, begin, outcome, every_time, accepts}
use Rattle.model.specs.Player.{arrival, answer_of, steps_of}
use Rattle.model.proofs.Answers.{Matching, match_unless, match_then, match_same}
use Rattle.model.proofs.Steps.{attempt_none, attempt_some}
use Rattle.counter_model.specs.Counter.{ticks_passed, times_of}
use Rattle.counter_model.specs.CounterRun.{CounterState, counts_at, counter_after, counter_attempt, counter_steps, counter_begin, counter_outcome}
use Rattle.counter_model.specs.CounterPlayer.{CounterArrival, counter_arrival, counter_answer_of}
use Rattle.counter_model.specs.CounterClaim.{without_time}
use Rattle.counter_model.proofs.StoppedCounts.{UpToMost, same_risen, same_restarted, same_enabled}

-- the board stands where a run does, with the same counts up to 65,536
pub record Stands (x : CounterState) (s : State) : Type 0 where
  pub location : x.location ≡ s.location
  pub counts : UpToMost x.counts s.counts

-- ---- an answer without its time

-- the arrival at location q
abbrev pub arrived_at : Chart → (q : ℕ) → Answer CounterArrival
arrived_at c q = returned (record { location = q; accepting = accepts c q })

pub no_time : (c : Chart) (y : Answer State) → without_time (then y (arrival c)) ≡ then y (λ s. arrived_at c s.location)
unfolding without_time arrival
no_time c (returned s) = refl
no_time c (refused n p) = refl

-- ---- one step

-- how an attempt is judged
module _ (c : Chart) (n : ℕ) (x : CounterState) (i now : ℕ) where
  pub counter_none : get_elem? c.transitions i ≡ none → counter_attempt c n x i now ≡ refused 14 n
  unfolding counter_attempt
  counter_none h = rw (h, counter_attempt) refl

  pub counter_some : {r : Transition} → Nth c i r
      → counter_attempt c n x i now
      ≡ unless (eqb r.source x.location) 22 n (unless (enabled c r (counts_at x now)) 24 n (returned (counter_after r x now)))
  unfolding counter_attempt
  counter_some m = rw (m.there, counter_attempt) refl

module _ (c : Chart) (small : large_constant c ≡ false) where
  -- and the reading and the time of the last step are known
  abbrev StandsAt : (last time : ℕ) → CounterState → State → Type 0
  StandsAt last time x s = Stands x s × (x.last ≡ last) × (s.time ≡ time)

  attempt_as_run : (n i now : ℕ) (x : CounterState) (s : State) → Stands x s → let t = s.time + ticks_passed x.last now in
      Matching (StandsAt now t) (counter_attempt c n x i now) (attempt every_time c n s (record { transition = i; time = t }))
  unfolding every_time counts_at counter_after after
  attempt_as_run n i now x s st = go (get_elem? c.transitions i) refl
    where
      d : ℕ
      d = ticks_passed x.last now

      e : Step
      e = record { transition = i; time = s.time + d }

      go : (o : Option Transition) → get_elem? c.transitions i ≡ o
          → Matching (StandsAt now (s.time + d)) (counter_attempt c n x i now) (attempt every_time c n s e)
      go none h = rw (counter_none c n x i now h, attempt_none every_time c n s e h) (refl, refl)
      go (some r) h =
          let m : Nth c i r = record { there = h } in
          let counts = same_risen st.counts d in
          rw (counter_some c n x i now m, attempt_some every_time c n s e m)
          (rw (le-leb s.time (s.time + d) (omega arith), add-sub_cancel_left s.time d) (
          match_unless _ 22 n _ _ (ap (eqb r.source) st.location) (λ from.
          match_unless _ 24 n _ _ (same_enabled counts c small m) (λ met.
          (record { location = refl; counts = same_restarted counts r.starts }, refl, refl)))))

  -- ---- a list of steps

  pub steps_as_run : (is rs : List ℕ) (n : ℕ) (x : CounterState) (s : State) → Stands x s
      → Matching Stands (counter_steps c n x is rs) (steps every_time c n s (steps_of is (times_of x.last s.time rs)))
  unfolding counter_steps steps steps_of times_of
  steps_as_run [] rs n x s st = st
  steps_as_run (i ∷ is) [] n x s st = st
  steps_as_run (i ∷ is) (now ∷ rs) n x s st =
      match_then (StandsAt now t) Stands (counter_attempt c n x i now) (attempt every_time c n s (record { transition = i; time = t }))
      (λ y. counter_steps c (suc n) y is rs) (λ z. steps every_time c (suc n) z (steps_of is (times_of now t rs)))
      (λ y z h.
      subst₂
      (λ (last time : ℕ). Matching Stands (counter_steps c (suc n) y is rs) (steps every_time c (suc n) z (steps_of is (times_of last time rs))))
      h.1 h.2 (steps_as_run is rs (suc n) y z h.0))
      (attempt_as_run n i now x s st)
    where
      t : ℕ
      t = s.time + ticks_passed x.last now

  pub added_up : (v : Counts) (first : ℕ) (is rs : List ℕ)
      → counter_answer_of c first v is rs ≡ without_time (answer_of every_time c v (steps_of is (times_of first 0 rs)))
  unfolding counter_answer_of counter_outcome counter_begin counter_arrival answer_of outcome begin
  added_up v first is rs =
      match_same Stands (counter_outcome c first v is rs) (outcome every_time c v (steps_of is (times_of first 0 rs)))
      (counter_arrival c) (λ s. arrived_at c s.location) (λ x s st. ap (arrived_at c) st.location)
      (steps_as_run is rs 0 (counter_begin c first v) (begin c v) (record { location = refl; counts = record { same = λ j. refl } }))
      ∙ sym (no_time c (outcome every_time c v (steps_of is (times_of first 0 rs))))
