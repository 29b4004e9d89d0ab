-- A head that stands at the end of its run: an event that waits at it leaves it there, and after it served one it stands at the end of a run again.
-- Hard: the run is told for every choice of allowed times that takes the player's, so that it is a run and the player's answer at once.
use mathlib.Core.Path.{◌≡◌, refl, sym, ◌∙◌}
use mathlib.Core.Bool.{Bool, true, false, ◌&&◌, true≢false}
use mathlib.Core.Option.{some}
use mathlib.Core.List.{List, [], ◌∷◌, ◌++◌}
use Prim.Native.Nat.{ℕ, ◌+◌, ◌-◌, ◌≤◌, ◌<◌}
use native.Mathlib.Omega.{arith}
use lib.Dec.{eqb}
use lib.ListN.{get_or, get_elem?}
use Rattle.lists.specs.Lists.{memb}
use Rattle.lists.proofs.Bools.{and_left, and_right, same_number}
use Rattle.model.specs.Answer.{returned}
use Rattle.model.specs.Chart.{Transition, Chart}
use Rattle.model.specs.Valid.{Valid, ValidTransition}
use Rattle.model.specs.Run.{Counts, State, Step, grown, restarted, after, enabled, steps, begin, outcome, waited, largest_time}
use Rattle.model.proofs.Transitions.{nth_valid}
use Rattle.controller_model.specs.declared.Head.{Head}
use Rattle.controller_model.specs.Parts.{stretch}
use Rattle.controller_model.specs.Serving.{standing, waits, state_of, can_take}
use Rattle.controller_model.proofs.ListParts.{stretch_at}
use Rattle.model.proofs.LongerSteps.{enabled_agree, attempt_taken, steps_snoc}

-- the times that the player takes are taken
abbrev pub Takes : (ℕ → Bool) → Type 0
Takes allowed = (t : ℕ) → t ≤ largest_time → allowed t ≡ true

-- d, its timers from o on in l, is sound, and stands where the steps es lead from v₀
pub record Stands (c : Chart) (o : ℕ) (v₀ : Counts) (d : Head) (l : List ℕ) (es : List Step) : Type 0 where
  pub location : d.location < c.locations
  pub time : d.time ≤ largest_time
  pub waiting : waits d ≡ true → (d.time ≤ d.waiting_time) × (d.waiting_time ≤ largest_time)
  pub small : (j : ℕ) → j < c.timers → get_or l (o + j) 0 ≤ d.time + largest_time
  pub left : State
  pub run : (allowed : ℕ → Bool) → Takes allowed → outcome allowed c v₀ es ≡ returned left
  pub there : d.location ≡ left.location
  pub earlier : left.time ≤ d.time
  pub shows : (j : ℕ) → j < c.timers → get_or l (o + j) 0 ≡ left.counts j + (d.time - left.time)

-- nothing waits at a head that just stands
pub standing_waits : (q t : ℕ) → waits (standing q t) ≡ false
unfolding waits
standing_waits q t = refl

-- at the beginning
pub begun : (c : Chart) (o : ℕ) (counts l : List ℕ) → c.initial < c.locations → ((j : ℕ) → j < c.timers → get_or l (o + j) 0 ≡ get_or counts j 0)
    → ((j : ℕ) → j < c.timers → get_or counts j 0 ≤ largest_time) → Stands c o (λ j. get_or counts j 0) (standing c.initial 0) l []
unfolding outcome steps begin
begun c o counts l b e m = record {
  location = b;
  time = omega arith;
  waiting = λ w. absurd (true≢false (sym w ∙ standing_waits c.initial 0));
  small = λ j h. omega (arith, e j h, m j h);
  left = begin c (λ j. get_or counts j 0);
  run = λ allowed takes. refl;
  there = refl;
  earlier = omega arith;
  shows = λ j h. omega (arith, e j h);
}

module _ {c : Chart} {o : ℕ} {v₀ : Counts} {d : Head} {l : List ℕ} {es : List Step} (s : Stands c o v₀ d l es) where
  -- its own timers are not touched
  pub stands_same : (l' : List ℕ) → ((j : ℕ) → j < c.timers → get_or l' (o + j) 0 ≡ get_or l (o + j) 0) → Stands c o v₀ d l' es
  stands_same l' e = record {
    location = s.location;
    time = s.time;
    waiting = s.waiting;
    small = λ j b. omega (arith, e j b, s.small j b);
    left = s.left;
    run = s.run;
    there = s.there;
    earlier = s.earlier;
    shows = λ j b. e j b ∙ s.shows j b;
  }

  pub stands_receives : (e t : ℕ) → d.time ≤ t → t ≤ largest_time
      → Stands c o v₀ (record { location = d.location; time = d.time; waiting = 1; event = e; waiting_time = t }) l es
  stands_receives e t b m = record {
    location = s.location;
    time = s.time;
    waiting = λ w. (b, m);
    small = s.small;
    left = s.left;
    run = s.run;
    there = s.there;
    earlier = s.earlier;
    shows = s.shows;
  }

  module _ (t : ℕ) (later : d.time ≤ t) (allowed-time : t ≤ largest_time) (l' : List ℕ) where
    -- the head as a state of its chart
    abbrev here : State
    here = state_of d (stretch o c.timers l)

    own : (j : ℕ) → j < c.timers → get_or (stretch o c.timers l) j 0 ≡ get_or l (o + j) 0
    own = stretch_at o c.timers l

    -- the event's time has come, and no transition is taken
    pub stands_waited : ((j : ℕ) → j < c.timers → get_or l' (o + j) 0 ≡ (waited (t - d.time) here).counts j)
        → Stands c o v₀ (standing d.location (waited (t - d.time) here).time) l' es
    unfolding state_of waited grown
    stands_waited e = record {
      location = s.location;
      time = omega arith;
      waiting = λ w. absurd (true≢false (sym w ∙ standing_waits _ _));
      small = λ j b. omega (arith, e j b, own j b, s.small j b);
      left = s.left;
      run = s.run;
      there = s.there;
      earlier = omega (arith, s.earlier);
      shows = λ j b. omega (arith, e j b, own j b, s.shows j b, s.earlier);
    }

    module _ {W : ℕ} (valid : Valid W c) (i e : ℕ) {r : Transition} (nth : get_elem? c.transitions i ≡ some r)
        (can : can_take c here e t r ≡ true) where
      abbrev step : Step
      step = record { transition = i; time = t }

      abbrev valid_r : ValidTransition W c.locations c.timers r
      valid_r = nth_valid valid {i = i} (record { there = nth })

      abbrev grown_here : Counts
      grown_here = grown (t - d.time) (λ j. get_or (stretch o c.timers l) j 0)

      from : r.source ≡ s.left.location
      unfolding can_take state_of
      from = same_number (and_left _ _ can) ∙ s.there

      -- the run's counts at time t are the head's
      agree : (j : ℕ) → j < c.timers → grown (t - s.left.time) s.left.counts j ≡ grown_here j
      unfolding grown
      agree j b = omega (arith, own j b, s.shows j b, s.earlier)

      met_now : enabled c r (grown (t - s.left.time) s.left.counts) ≡ true
      unfolding can_take state_of
      met_now =
          enabled_agree c r (grown (t - s.left.time) s.left.counts) grown_here valid_r agree
          ∙ and_right (eqb r.event e) (enabled c r grown_here)
          (and_right (eqb r.source d.location) (eqb r.event e && enabled c r grown_here) can)

      at_most : (j : ℕ) → j < c.timers → restarted r.starts grown_here j ≤ get_or l (o + j) 0 + (t - d.time)
      unfolding restarted grown
      at_most j b = go (memb j r.starts) (own j b)
        where
          go : (b : Bool) {x y : ℕ} → x ≡ y → elim b [ true ↦ 0 | false ↦ x + (t - d.time) ] ≤ y + (t - d.time)
          go true e = omega arith
          go false e = omega arith

      started : (j : ℕ) → j < c.timers
          → restarted r.starts grown_here j ≡ restarted r.starts (grown (t - s.left.time) s.left.counts) j + (t - t)
      unfolding restarted
      started j b = go (memb j r.starts) (agree j b)
        where
          go : (b : Bool) {x y : ℕ} → x ≡ y → elim b [ true ↦ 0 | false ↦ y ] ≡ elim b [ true ↦ 0 | false ↦ x ] + (t - t)
          go true e = omega arith
          go false e = omega arith

      -- it takes the transition r, number i
      pub stands_taken : ((j : ℕ) → j < c.timers → get_or l' (o + j) 0 ≡ (after r here t).counts j)
          → Stands c o v₀ (standing r.target t) l' (es ++ step ∷ [])
      unfolding after state_of outcome
      stands_taken now = record {
        location = valid_r.target;
        time = allowed-time;
        waiting = λ w. absurd (true≢false (sym w ∙ standing_waits _ _));
        small = λ j b. omega (arith, now j b, at_most j b, s.small j b);
        left = after r s.left t;
        run = λ allowed takes.
            steps_snoc allowed c es 0 (begin c v₀) step (s.run allowed takes)
            (λ m. attempt_taken allowed c m s.left step (record { there = nth }) (takes t allowed-time) from (omega (arith, s.earlier)) met_now);
        there = refl;
        earlier = omega arith;
        shows = λ j b. now j b ∙ started j b;
      }
