-- The chart whose transitions from spare locations have no tests and no starts (document 02, P7): it reaches the same locations, has the chart's
-- plans, is judged alike, and where every location is reached, as in an accepted chart below version 3, it is the chart; and every test of it is on a
-- transition that leaves a reached location, so a plan has a number for its timer there.
use mathlib.Core.Path.{◌≡◌, refl, sym, ap, subst, ◌∙◌}
use mathlib.Core.Logic.{◌↔◌, ◌⊎◌, inl, inr, ⊎_elim}
use mathlib.Core.Bool.{Bool, true, false}
use mathlib.Core.Option.{some}
use Prim.Native.Nat.{ℕ, ◌<◌}
use native.Mathlib.Omega.{arith}
use lib.ListN.{get_elem?, length-map}
use borrow.Author.Tests.{lt-leb}
use Rattle.lists.proofs.Bools.{yes_or_no, not_both}
use Rattle.lists.proofs.Nth.{map_unchanged}
use Rattle.lists.proofs.Membership.{nth_map, nth_unmap}
use Rattle.model.specs.Answer.{returned}
use Rattle.model.specs.Chart.{Transition, Chart, Nth, tested}
use Rattle.model.specs.Version.{allows_spare}
use Rattle.model.specs.Valid.{Valid, ValidTransition, Storable}
use Rattle.model.specs.Path.{Reached}
use Rattle.model.specs.Live.{reached_sets}
use Rattle.model.specs.Spare.{leaves_reached, reached_part, bare, bare_unless, spare_cleared}
use Rattle.model.specs.Places.{AllReached}
use Rattle.model.specs.Judge.{judged}
use Rattle.model.proofs.Transitions.{nth_valid}
use Rattle.model.proofs.Judgement.{accepted}
use Rattle.model.proofs.RewrittenValid.{all_map}
use Rattle.model.proofs.SameReached.{SameReached, both_reached, accepted_there}
use Rattle.model.proofs.ReachedPart.{leaves_iff, part_whole}
use Rattle.lists.specs.Lists.{any_of}
use Rattle.model.specs.Rewrite.{Numbering}
use Rattle.model.specs.Plan.{Numbered, Plan}
use Rattle.model.proofs.Agree.{tests_numbered}

-- a transition keeps its ends
pub bare_source : (b : Bool) (r : Transition) → (bare_unless b r).source ≡ r.source
bare_source true r = refl
bare_source false r = refl

module _ (c : Chart) where
  -- what becomes of a transition
  abbrev pub cleared : Transition → Transition
  cleared r = bare_unless (leaves_reached (reached_sets c) r) r

  pub cleared_nth : {i : ℕ} {r : Transition} → Nth c i r → Nth (spare_cleared c) i (cleared r)
  unfolding spare_cleared
  cleared_nth {i} n = record { there = nth_map cleared c.transitions i n.there }

  pub cleared_from : {i : ℕ} {r' : Transition} → Nth (spare_cleared c) i r' → (r : Transition) × Nth c i r × (cleared r ≡ r')
  unfolding spare_cleared
  cleared_from {i} n = let u = nth_unmap cleared c.transitions i n.there in (u.0, record { there = u.1 }, u.2)

module _ {W : ℕ} {c : Chart} (valid : Valid W c) where
  -- a transition that leaves a reached location stays as it is
  pub cleared_one : {i : ℕ} {r : Transition} → Nth c i r → Reached c r.source → cleared c r ≡ r
  cleared_one {i} {r} n x = ap (λ (b : Bool). bare_unless b r) ((leaves_iff valid n).1 x)

  pub cleared_kept : {i : ℕ} {r : Transition} → Nth c i r → Reached c r.source → Nth (spare_cleared c) i r
  cleared_kept {i} n x = subst (Nth (spare_cleared c) i) (cleared_one n x) (cleared_nth c n)

  pub cleared_same : SameReached c (spare_cleared c)
  unfolding spare_cleared
  cleared_same = record {
    initial = refl;
    there = λ i r n x. (i, cleared_kept n x);
    back = λ i r n x.
        let u = cleared_from c n in
        let source : r.source ≡ u.0.source =
        ap (λ (y : Transition). y.source) (sym u.2) ∙ bare_source (leaves_reached (reached_sets c) u.0) u.0 in
        (i, subst (Nth c i) (sym (cleared_one u.1 (rw (← source) x)) ∙ u.2) u.1);
  }

  pub cleared_reached : (q : ℕ) → Reached c q ↔ Reached (spare_cleared c) q
  cleared_reached = both_reached cleared_same

  pub cleared_valid : Valid W (spare_cleared c)
  unfolding spare_cleared
  cleared_valid = record {
    some_location = valid.some_location;
    few_locations = valid.few_locations;
    initial = valid.initial;
    few_timers = valid.few_timers;
    accepting = valid.accepting;
    few_transitions = rw (length-map c.transitions (cleared c)) valid.few_transitions;
    transitions =
        all_map (ValidTransition W c.locations c.timers) (ValidTransition W c.locations c.timers) (cleared c) c.transitions
        (λ r. kept (leaves_reached (reached_sets c) r) r) valid.transitions;
  }
    where
      kept : (b : Bool) (r : Transition) → ValidTransition W c.locations c.timers r
          → ValidTransition W c.locations c.timers (bare_unless b r)
      kept true r y = y
      kept false r y = record { source = y.source; target = y.target; event = y.event; starts = tt; few_tests = omega arith; tests = tt }

  pub cleared_accepted : judged c ≡ returned c → judged (spare_cleared c) ≡ returned (spare_cleared c)
  unfolding spare_cleared
  cleared_accepted e = (accepted cleared_valid).1 (accepted_there cleared_same refl refl ((accepted valid).0 e))

  pub cleared_whole : AllReached c → spare_cleared c ≡ c
  unfolding spare_cleared
  cleared_whole all = λ i. record {
    version = c.version;
    locations = c.locations;
    initial = c.initial;
    timers = c.timers;
    accepting = c.accepting;
    transitions = map_unchanged (cleared c) c.transitions each i;
  }
    where
      each : (i : ℕ) (r : Transition) → get_elem? c.transitions i ≡ some r → cleared c r ≡ r
      each i r e = let n : Nth c i r = record { there = e } in cleared_one n (all r.source (nth_valid valid n).source)

  -- so an accepted chart of a version below 3 is its own part that counts and its own cleared chart
  pub accepted_whole : judged c ≡ returned c → c.version < 3 → (reached_part c ≡ c) × (spare_cleared c ≡ c)
  unfolding allows_spare
  accepted_whole e below = let all = ((accepted valid).0 e).reached (lt-leb 3 c.version below) in (part_whole valid all, cleared_whole all)

  -- a transition leaves a reached location or is spare
  pub reached_or_spare : {i : ℕ} {r : Transition} → Nth c i r → Reached c r.source ⊎ (Reached c r.source → ⊥)
  reached_or_spare {i} {r} n = ⊎_elim
      (λ e. inl ((leaves_iff valid n).0 e))
      (λ e. inr (λ x. not_both ((leaves_iff valid n).1 x) e))
      (yes_or_no (leaves_reached (reached_sets c) r))

  -- what becomes of it: a spare one is bare
  pub cleared_spare : {i : ℕ} {r : Transition} → Nth c i r → (Reached c r.source → ⊥) → cleared c r ≡ bare r
  cleared_spare {i} {r} n spare = ⊎_elim
      (λ e. absurd (spare ((leaves_iff valid n).0 e)))
      (λ e. ap (λ b. bare_unless b r) e)
      (yes_or_no (leaves_reached (reached_sets c) r))

  pub cleared_numbered : {N : Numbering} → Plan c N → (i : ℕ) (r : Transition) → Nth (spare_cleared c) i r → Numbered N r.source r.tests
  cleared_numbered {N} P i r' n = let o = cleared_from c n in
      subst (λ (t : Transition). Numbered N t.source t.tests) o.2 (go o.0 o.1 (reached_or_spare o.1))
    where
      go : (r : Transition) → Nth c i r → Reached c r.source ⊎ (Reached c r.source → ⊥) → Numbered N (cleared c r).source (cleared c r).tests
      go r m (inl x) = subst (λ (t : Transition). Numbered N t.source t.tests) (sym (cleared_one m x)) (tests_numbered c N P m x)
      go r m (inr x) =
          subst (λ (t : Transition). Numbered N t.source t.tests) (sym (cleared_spare m x))
          (λ j h. absurd (not_both h (unfold tested any_of in refl)))

pub cleared_storable : {c : Chart} → Storable c → Storable (spare_cleared c)
unfolding spare_cleared
cleared_storable s = record { known = s.known; valid = cleared_valid s.valid }
