-- Each way out of a step answers as the run's definition does: the tests of 14, 15, 22, 23 and 24 are passed one by one, and the state of the code
-- that follows shows the run's. Hard: every fact is one of the code's state and must be read as one of the run's.
use mathlib.Core.Path.{◌≡◌, refl, sym, ap, subst, ◌∙◌}
use mathlib.Core.Logic.{◌⊎◌, inl, inr}
use mathlib.Core.Bool.{Bool, true, false}
use mathlib.Core.List.{List}
use Prim.Native.Nat.{ℕ, ◌+◌, ◌-◌, ◌≤◌, ◌<◌}
use native.Mathlib.Omega.{arith}
use lib.Dec.{leb, eqb}
use lib.ListN.{length, get_or}
use borrow.Author.Tests.{le-leb, lt-leb, eq-eqb, ne_eqb}
use Rattle.lists.proofs.Bools.{yes_or_no}
use Rattle.timer_set.specs.Members.{member}
use Rattle.model.specs.Answer.{Answer, refused, unless}
use Rattle.model.specs.Chart.{Transition, Chart, Nth}
use Rattle.model.specs.Run.{Counts, State as Run-as-State, grown, after, enabled, attempt, player_time, largest_time}
use Rattle.model.proofs.Steps.{judged_step, attempt_none, attempt_some}
use Rattle.chart_lists.specs.Lists.{Lists}
use Rattle.chart_lists.specs.Holds.{Holds}
use Rattle.std.specs.Prelude.{Ok, Err}
use Rattle.refusal.specs.declared.Reason.{Reason}
use Rattle.refusal.specs.declared.Refusal.{Refusal}
use Rattle.refusal.specs.Reason.{number_of}
use Rattle.refusal.specs.Refused.{refused_as}
use Rattle.steps.specs.declared.State.{State}
use Rattle.steps.specs.Counts.{CountsAgree, Room, MovedOn}
use Rattle.steps.specs.Stepping.{Shows, Small, step_at, refusal_at, Decided}
use Rattle.steps.proofs.TransitionPlaces.{TransitionAt, no_transition, some_transition, transition_at}
use Rattle.steps.proofs.MovedCounts.{count_started, count_grown, none_started, grown_agrees, started_agrees}

-- a small state's counts can grow up to any time that is taken
pub room : (x : State) (t : ℕ) → Small x → x.time ≤ t → t ≤ largest_time → Room x.counts (t - x.time)
room x t w h l = record { number = w.number; fits = λ j b. omega (arith, w.bound j b) }

-- the state after a step
abbrev pub next_state : (target time : ℕ) → List ℕ → State
next_state q t v = record { location = q; time = t; counts = v }

module _ (x : State) (q t starts : ℕ) {g v : List ℕ} (w : Small x) (h : x.time ≤ t) (grows : MovedOn 0 (t - x.time) x.counts g)
    (starting : MovedOn starts 0 g v) where
  pub next_small : Small (next_state q t v)
  next_small = record { number = starting.number; bound = λ j l. go j l (yes_or_no (member starts j)) }
    where
      go : (j : ℕ) → j < 64 → (member starts j ≡ true) ⊎ (member starts j ≡ false) → get_or v j 0 ≤ largest_time + t
      go j l (inl e) = omega (arith, starting.count j l ∙ count_started starts _ j _ e)
      go j l (inr e) =
          let more = grows.count j l ∙ none_started _ j _ in
          omega (arith, starting.count j l ∙ count_grown starts _ j _ e, more, w.bound j l)

-- a refusal of the code for one of a definition
pub refused_as_lem : {A S : Type 0} (P : A → S → Type 0) (why : Reason) (n : ℕ) (f : Refusal) (y : Answer S) → f ≡ refusal_at why n
    → y ≡ refused (number_of why) n → Decided P (Err f) y
refused_as_lem P why n f y e told = subst (Decided P (Err f)) (sym told) (ap refused_as e)

module _ {c : Chart} {l : Lists} (held : Holds c l) (k i t : ℕ) (x : State) (s : Run-as-State) (w : Shows x s) where
  abbrev told : Answer Run-as-State
  told = attempt player_time c k s (step_at i t)

  pub attempt_14 : length c.transitions ≤ i → told ≡ refused 14 k
  attempt_14 h = attempt_none player_time c k s (step_at i t) (no_transition c i h)

  module _ (h : i < length c.transitions) where
    abbrev r : Transition
    r = (some_transition c i h).0

    abbrev nth : Nth c i r
    nth = (some_transition c i h).1

    abbrev at : TransitionAt r i l
    at = transition_at held nth

    told_is : told ≡ unless (player_time t) 15 k (judged_step c k r s t)
    told_is = attempt_some player_time c k s (step_at i t) nth

    pub attempt_15 : largest_time < t → told ≡ refused 15 k
    unfolding player_time
    attempt_15 d = told_is ∙ rw (lt-leb t largest_time d) refl

    module _ (d : t ≤ largest_time) where
      allowed : told ≡ judged_step c k r s t
      unfolding player_time
      allowed = told_is ∙ rw (le-leb t largest_time d) refl

      pub attempt_22 : (get_or l.sources i 0 ≡ x.location → ⊥) → told ≡ refused 22 k
      attempt_22 f = allowed ∙ rw (ne_eqb r.source s.location (λ e. f (at.source ∙ e ∙ sym w.location))) refl

      module _ (e : get_or l.sources i 0 ≡ x.location) where
        leaves : eqb r.source s.location ≡ true
        leaves = eq-eqb r.source s.location (sym at.source ∙ e ∙ w.location)

        pub attempt_23 : t < x.time → told ≡ refused 23 k
        attempt_23 b = allowed ∙ rw (leaves, lt-leb s.time t (omega (arith, w.time))) refl

        module _ (b : x.time ≤ t) (g : List ℕ) (grows : MovedOn 0 (t - x.time) x.counts g) (m : Bool)
            (decided : (tr : Transition) → Nth c i tr → (v : Counts) → CountsAgree g v → m ≡ enabled c tr v) where
          later : leb s.time t ≡ true
          later = le-leb s.time t (omega (arith, w.time))

          agrees : CountsAgree g (grown (t - s.time) s.counts)
          agrees =
              let same = ap (λ (q : ℕ). grown (t - q) s.counts) w.time in
              subst (CountsAgree g) same (grown_agrees (t - x.time) x.counts g s.counts w.counts grows)

          passed : enabled c r (grown (t - s.time) s.counts) ≡ m
          passed = sym (decided r nth _ agrees)

          pub attempt_24 : m ≡ false → told ≡ refused 24 k
          attempt_24 f = allowed ∙ rw (leaves, later, passed, f) refl

          pub attempt_taken : m ≡ true → (v : List ℕ) → MovedOn (get_or l.starts i 0) 0 g v
              → Decided (λ done. Shows (next_state (get_or l.targets i 0) t v)) (Ok (tt {0})) told
          unfolding after
          attempt_taken f v starting =
              let counts = started_agrees (get_or l.starts i 0) g v _ r.starts at.started agrees starting in
              rw (allowed, leaves, later, passed, f) (record { location = at.target; time = refl; counts = counts })
