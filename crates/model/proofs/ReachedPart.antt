-- The part of a chart that counts (document 02, P7): it has the chart's reached locations, there the chart's live timers, also within so many
-- transitions, and nothing is live at a spare one; it has the chart's unstarted tests and its plans; and where every location is reached it is the
-- chart.
use mathlib.Core.Path.{◌≡◌, refl, ap}
use mathlib.Core.Logic.{◌↔◌}
use mathlib.Core.Bool.{true, false, not}
use mathlib.Core.Option.{some}
use Prim.Native.Nat.{ℕ}
use native.Mathlib.Omega.{arith}
use lib.ListN.{get_or, get_elem?}
use borrow.Author.Tests.{not-true}
use Rattle.timer_set.specs.Members.{member}
use Rattle.lists.proofs.Bools.{is_no}
use Rattle.lists.proofs.Filtered.{filtered_from, filtered_into, filtered_all, filtered_short, filtered_same}
use Rattle.model.specs.Answer.{returned}
use Rattle.model.specs.Chart.{Transition, Chart, Nth}
use Rattle.model.specs.Valid.{Valid, ValidTransition}
use Rattle.model.specs.Path.{Live, Reached}
use Rattle.model.specs.LiveWithin.{LiveWithin}
use Rattle.model.specs.Flow.{rounds_of}
use Rattle.model.specs.Live.{is_empty, reached_sets, live_flow, live}
use Rattle.model.specs.Spare.{leaves_reached, reached_part}
use Rattle.model.specs.Places.{AllReached}
use Rattle.model.specs.Judge.{judged}
use Rattle.model.proofs.Transitions.{nth_valid}
use Rattle.model.proofs.Paths.{live_least}
use Rattle.model.proofs.Forward.{reached_iff}
use Rattle.model.proofs.LivePaths.{live_iff, round_live_iff}
use Rattle.model.proofs.Judgement.{accepted}
use Rattle.model.proofs.SameReached.{SameReached, both_reached, turned, within_there, live_there, accepted_there}

module _ {W : ℕ} {c : Chart} (valid : Valid W c) where
  -- what is computed of a transition's source is what paths say of it
  pub leaves_iff : {i : ℕ} {r : Transition} → Nth c i r → (leaves_reached (reached_sets c) r ≡ true) ↔ Reached c r.source
  unfolding leaves_reached
  leaves_iff {i} {r} n =
      let x = reached_iff valid r.source (nth_valid valid n).source in
      (λ e. x.0 (not-true (is_empty (get_or (reached_sets c) r.source 0)) e), λ y. ap not (x.1 y))

  -- its transitions are those of the chart that leave a reached location
  pub part_from : {k : ℕ} {r : Transition} → Nth (reached_part c) k r → (i : ℕ) × Nth c i r × Reached c r.source
  unfolding reached_part
  part_from {k} {r} n =
      let x = filtered_from (leaves_reached (reached_sets c)) c.transitions k r n.there in
      let m : Nth c x.0 r = record { there = x.1 } in
      (x.0, m, (leaves_iff m).0 x.2)

  pub part_same : SameReached c (reached_part c)
  unfolding reached_part
  part_same = record {
    initial = refl;
    there = λ i r n x.
        let y = filtered_into (leaves_reached (reached_sets c)) c.transitions i n.there ((leaves_iff n).1 x) in
        (y.0, record { there = y.1 });
    back = λ i r n x. let y = part_from n in (y.0, y.1);
  }

  pub part_reached : (q : ℕ) → Reached c q ↔ Reached (reached_part c) q
  part_reached = both_reached part_same

  pub part_valid : Valid W (reached_part c)
  unfolding reached_part
  part_valid = record {
    some_location = valid.some_location;
    few_locations = valid.few_locations;
    initial = valid.initial;
    few_timers = valid.few_timers;
    accepting = valid.accepting;
    few_transitions = omega (arith, filtered_short (leaves_reached (reached_sets c)) c.transitions, valid.few_transitions);
    transitions = filtered_all (leaves_reached (reached_sets c)) (ValidTransition W c.locations c.timers) c.transitions valid.transitions;
  }

  -- live in the part: live in the chart, at a reached location; also by a path of at most k transitions
  pub part_live : (q j : ℕ) → Live (reached_part c) q j ↔ (Reached c q × Live c q j)
  part_live q j = (
    λ l.
        let x : Reached c q = live_least (Reached c) (λ i r n t. (part_from n).2) (λ i r n f b. (part_from n).2) l in
        (x, live_there (turned part_same) ((part_reached q).0 x) l),
    λ x. live_there part_same x.0 x.1,
  )

  pub part_within : (k q j : ℕ) → LiveWithin (reached_part c) k q j ↔ (Reached c q × LiveWithin c k q j)
  part_within k q j = (
    λ l. let x = ((part_live q j).0 l.live).0 in (x, within_there (turned part_same) ((part_reached q).0 x) l),
    λ x. within_there part_same x.0 x.1,
  )

  -- the sets that are computed of the part: each round, and the last
  pub part_round : (k q j : ℕ) → (member (get_or (rounds_of (live_flow (reached_part c)) k) q 0) j ≡ true) ↔ (Reached c q × LiveWithin c k q j)
  part_round k q j =
      let x = round_live_iff part_valid k q j in
      let y = part_within k q j in
      (λ m. y.0 (x.0 m), λ l. x.1 (y.1 l))

  pub part_live_iff : (q j : ℕ) → (live (reached_part c) q j ≡ true) ↔ (Reached c q × Live c q j)
  part_live_iff q j =
      let x = live_iff part_valid q j in
      let y = part_live q j in
      (λ m. y.0 (x.0 m), λ l. x.1 (y.1 l))

  -- nothing is live at a spare location in any round
  pub spare_round : (q : ℕ) → (Reached c q → ⊥) → (k j : ℕ) → member (get_or (rounds_of (live_flow (reached_part c)) k) q 0) j ≡ false
  spare_round q spare k j = is_no _ (λ m. spare ((part_round k q j).0 m).0)

  -- an accepted chart has an accepted part
  pub part_accepted : judged c ≡ returned c → judged (reached_part c) ≡ returned (reached_part c)
  unfolding reached_part
  part_accepted e = (accepted part_valid).1 (accepted_there part_same refl refl ((accepted valid).0 e))

  -- where every location is reached, all counts
  pub part_whole : AllReached c → reached_part c ≡ c
  unfolding reached_part
  part_whole all = λ i. record {
    version = c.version;
    locations = c.locations;
    initial = c.initial;
    timers = c.timers;
    accepting = c.accepting;
    transitions = filtered_same (leaves_reached (reached_sets c)) c.transitions each i;
  }
    where
      each : (i : ℕ) (r : Transition) → get_elem? c.transitions i ≡ some r → leaves_reached (reached_sets c) r ≡ true
      each i r e = let n : Nth c i r = record { there = e } in (leaves_iff n).1 (all r.source (nth_valid valid n).source)
