-- What a head is left with: its counts grown to the event's time, and the transition's target and starts, if one is taken. Each fact is one of the
-- head and is read as one of the run's state.
use mathlib.Core.Path.{◌≡◌, refl, sym, ap, subst, ◌∙◌}
use mathlib.Core.List.{List}
use Prim.Native.Nat.{ℕ, ◌-◌, ◌≤◌, ◌<◌}
use native.Mathlib.Omega.{arith}
use lib.ListN.{length, get_or}
use borrow.Author.Tests.{lt-ltb, le-ltb}
use Rattle.std.specs.Prelude.{Some, None}
use Rattle.model.specs.Chart.{Transition, Chart, Nth}
use Rattle.model.specs.Run.{State, grown, after, waited}
use Rattle.chart_lists.specs.Lists.{Lists}
use Rattle.chart_lists.specs.Holds.{Holds}
use Rattle.steps.specs.Counts.{CountsAgree, Room, MovedOn}
use Rattle.steps.proofs.MovedCounts.{grown_agrees, started_agrees}
use Rattle.steps.proofs.TransitionPlaces.{no_transition, some_transition, transition_at}
use Rattle.controller_model.specs.declared.Head.{Head}
use Rattle.controller_model.specs.Serving.{lowest_to_take, left_by}
use Rattle.serving.specs.Served.{SoundServing, HeadShows, ServedAs}

-- a sound head's counts can grow to the time of its event
pub room : {d : Head} {own : List ℕ} → SoundServing d own → (p : ℕ) → p ≤ d.waiting_time - d.time → Room own p
room s p e = record { number = s.number; fits = λ j h. omega (arith, s.counts j h, s.later, s.small) }

module _ (d : Head) {own : List ℕ} {x : State} (w : HeadShows d own x) {g : List ℕ} (grows : MovedOn 0 (d.waiting_time - d.time) own g) where
  abbrev t : ℕ
  t = d.waiting_time

  -- the tests are tried on these
  pub grown_shows : CountsAgree g (grown (d.waiting_time - x.time) x.counts)
  grown_shows =
      let same = ap (λ (s : ℕ). grown (t - s) x.counts) w.time in
      subst (CountsAgree g) same (grown_agrees (t - d.time) own g x.counts w.counts grows)

  module _ (c : Chart) {i : ℕ} (e : i ≡ lowest_to_take c x d.event d.waiting_time) where
    abbrev left : State
    left = left_by c x (lowest_to_take c x d.event t) t

    left_after : (r : Transition) → Nth c i r → left ≡ after r x t
    unfolding left_by
    left_after r n = ap (λ (k : ℕ). left_by c x k t) (sym e) ∙ rw (n.there, left_by)

    left_waited : length c.transitions ≤ i → left ≡ waited (t - x.time) x
    unfolding left_by
    left_waited many = ap (λ (k : ℕ). left_by c x k t) (sym e) ∙ rw (no_transition c i many, left_by)

    pub served_taken : {l : Lists} → Holds c l → i < length c.transitions → {v : List ℕ} → MovedOn (get_or l.starts i 0) 0 g v
        → ServedAs c x d.event d.waiting_time (record { transition = Some i; location = get_or l.targets i 0; counts = v })
    unfolding after
    served_taken {l} held h {v} starting =
        let n = some_transition c i h in
        let at = transition_at held n.1 in
        let same = left_after n.0 n.1 in
        let counts = started_agrees (get_or l.starts i 0) g v _ n.0.starts at.started grown_shows starting in
        record {
          number = starting.number;
          transition = rw (sym e, lt-ltb i (length c.transitions) h) refl;
          location = at.target ∙ sym (ap (λ (s : State). s.location) same);
          counts = subst (CountsAgree v) (sym (ap (λ (s : State). s.counts) same)) counts;
        }

    pub served_none : length c.transitions ≤ i
        → ServedAs c x d.event d.waiting_time (record { transition = None; location = d.location; counts = g })
    unfolding waited
    served_none h =
        let same = left_waited h in
        record {
          number = grows.number;
          transition = rw (sym e, le-ltb i (length c.transitions) h) refl;
          location = w.location ∙ sym (ap (λ (s : State). s.location) same);
          counts = subst (CountsAgree g) (sym (ap (λ (s : State). s.counts) same)) grown_shows;
        }
