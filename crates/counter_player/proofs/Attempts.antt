-- Each way out of a step answers as the definition does: the tests of 14, 22 and 24 are passed one by one, and the state of the code that follows
-- shows the definition's. Hard: every fact is one of the code's state and must be read as one of the definition's.
use Rattle.std.proofs.Common.{◌≡◌, ℕ, ◌<◌, ◌≤◌, Bool, true, false, eqb, List, length, get_or, Ok, sym, refl, ◌∙◌, subst, eq-eqb, ne_eqb}
use Rattle.model.specs.Answer.{Answer, refused}
use Rattle.model.specs.Chart.{Transition, Chart, Nth}
use Rattle.model.specs.Run.{Counts, enabled}
use Rattle.chart_lists.specs.Lists.{Lists}
use Rattle.chart_lists.specs.Holds.{Holds}
use Rattle.steps.specs.Counts.{CountsAgree, MovedOn}
use Rattle.steps.proofs.TransitionPlaces.{TransitionAt, no_transition, some_transition, transition_at}
use Rattle.steps.proofs.MovedCounts.{started_agrees}
use Rattle.counter_model.specs.Counter.{ticks_passed}
use Rattle.counter_model.specs.CounterRun.{CounterState, counts_at, counter_after, counter_attempt}
use Rattle.counter_model.proofs.AddedUp.{counter_none, counter_some}
use Rattle.counter_player.specs.declared.stepping.State.{State}
use Rattle.counter_player.specs.Counts.{Risen}
use Rattle.counter_player.specs.Stepping.{Shows, Answered}
use Rattle.counter_player.proofs.RisenCounts.{risen_agrees}

-- the state after a step
abbrev pub next_state : (target last : ℕ) → List ℕ → State
next_state q t v = record { location = q; last = t; counts = v }

module _ {c : Chart} {l : Lists} (held : Holds c l) (k i reading : ℕ) (x : State) (s : CounterState) (w : Shows x s) where
  abbrev told : Answer CounterState
  told = counter_attempt c k s i reading

  pub attempt_14 : length c.transitions ≤ i → told ≡ refused 14 k
  attempt_14 h = counter_none c k s i reading (no_transition c i h)

  module _ (h : i < length c.transitions) where
    abbrev r : Transition
    r = (some_transition c i h).0

    abbrev nth : Nth c i r
    nth = (some_transition c i h).1

    abbrev at : TransitionAt r i l
    at = transition_at held nth

    pub attempt_22 : (get_or l.sources i 0 ≡ x.location → ⊥) → told ≡ refused 22 k
    attempt_22 f = counter_some c k s i reading nth ∙ rw (ne_eqb r.source s.location (λ e. f (at.source ∙ e ∙ sym w.location))) refl

    module _ (e : get_or l.sources i 0 ≡ x.location) (g : List ℕ) (grows : Risen (ticks_passed x.last reading) x.counts g) (m : Bool)
        (decided : (tr : Transition) → Nth c i tr → (v : Counts) → CountsAgree g v → m ≡ enabled c tr v) where
      leaves : eqb r.source s.location ≡ true
      leaves = eq-eqb r.source s.location (sym at.source ∙ e ∙ w.location)

      agrees : CountsAgree g (counts_at s reading)
      unfolding counts_at
      agrees = risen_agrees (ticks_passed s.last reading) x.counts g s.counts w.counts
          (subst (λ (last : ℕ). Risen (ticks_passed last reading) x.counts g) w.last grows)

      passed : enabled c r (counts_at s reading) ≡ m
      passed = sym (decided r nth _ agrees)

      pub attempt_24 : m ≡ false → told ≡ refused 24 k
      attempt_24 f = counter_some c k s i reading nth ∙ rw (leaves, passed, f) refl

      pub attempt_taken : m ≡ true → (v : List ℕ) → MovedOn (get_or l.starts i 0) 0 g v
          → Answered (next_state (get_or l.targets i 0) reading v) (Ok (tt {0})) told
      unfolding counter_after
      attempt_taken f v starting =
          let counts = started_agrees (get_or l.starts i 0) g v _ r.starts at.started agrees starting in
          rw (counter_some c k s i reading nth, leaves, passed, f) (record { location = at.target; last = refl; counts = counts })
