-- Runs, their acceptance, their points and plans by examples: of each one that holds and one that is shown not to; and charts with the most rounds.
-- What the definitions compute is put to the laws of `Meanings`.
use mathlib.Core.Path.{◌≡◌, refl, sym, ap, ◌∙◌}
use mathlib.Core.Logic.{◌↔◌}
use mathlib.Core.Bool.{Bool, true, false, true≢false}
use mathlib.Core.Option.{some, some-injective, none-ne-some}
use mathlib.Core.List.{List, [], ◌∷◌, map}
use Prim.Native.Nat.{ℕ, zero, suc, ◌+◌}
use native.Mathlib.Omega.{arith}
use lib.ListN.{get_or, get_elem?, take}
use lib.Seq.{take-nil}
use Rattle.timer_set.specs.Members.{member}
use Rattle.lists.specs.Lists.{memb}
use Rattle.model.specs.Answer.{returned, refused, then}
use Rattle.model.specs.Chart.{Test, Transition, Chart}
use Rattle.model.specs.AnyOrder.{SameTransitions}
use Rattle.model.specs.Valid.{Valid, Storable}
use Rattle.model.specs.Path.{Live, Reached}
use Rattle.model.specs.Places.{Accepted}
use Rattle.model.specs.Live.{live_sets, live_rounds, live}
use Rattle.model.specs.Run.{Counts, State, EndsAccepting, Point, grown, restarted, outcome, every_time, waited}
use Rattle.model.specs.Player.{Arrival, answer_of}
use Rattle.model.specs.Spare.{reached_part}
use Rattle.model.specs.Rewrite.{Numbering, numbering, through, board_numbering}
use Rattle.model.specs.Plan.{Has, Plan}
use Rattle.model.specs.Judge.{judged, rewriting}
use Rattle.model.specs.Equivalence.{IsRun}
use Rattle.model.specs.Cases.{arrow, test, drawn, A, B, B', Reply, ask, case, starred, unnoticed}
use Rattle.model.specs.Cases.Reply.{sets, rewriting_is as rewriting-reply}
use Rattle.model.specs.Examples.{one_step, two_steps, stricter, other_end, live_numbers, one_number, drawn_numbers, loop_started, loop_not_started}
use Rattle.model.proofs.Computing.{charts_compute}
use Rattle.model.proofs.Starred.{starred_hold}
use Rattle.model.proofs.Answers.{result_refused, result_same}
use Rattle.model.proofs.Paths.{live_here, live_back, live_inside, live_unstarted}
use Rattle.model.proofs.LivePaths.{live_iff}
use Rattle.model.proofs.Judgement.{accepted}
use Rattle.model.proofs.RewritingAlike.{rewriting_is}
use Rattle.model.proofs.Meanings.{is_run_iff, ends_accepting_iff, point_iff}

-- ---- runs and their acceptance

module _ (v : Counts) where
  two_steps_lem : (answer_of every_time B v two_steps ≡ returned (record { location = 2; time = 7; accepting = false }))
      × (answer_of every_time stricter v two_steps ≡ refused 24 1)
      × (answer_of every_time other_end v two_steps ≡ returned (record { location = 2; time = 7; accepting = true }))
  unfolding charts_compute B stricter other_end two_steps
  two_steps_lem = (refl, refl, refl)

  pub B-run : IsRun B v two_steps
  B-run = (is_run_iff B v two_steps).1 (_, two_steps_lem.0)

  pub stricter_no_run : IsRun stricter v two_steps → ⊥
  stricter_no_run x = result_refused ((is_run_iff stricter v two_steps).0 x).1 two_steps_lem.1

  pub other_end_accepting : EndsAccepting other_end v two_steps
  other_end_accepting = (ends_accepting_iff other_end v two_steps).1 (_, two_steps_lem.2, refl)

  pub B-not-accepting : EndsAccepting B v two_steps → ⊥
  B-not-accepting x =
      let y = (ends_accepting_iff B v two_steps).0 x in
      true≢false (sym y.2 ∙ ap (λ (a : Arrival). a.accepting) (result_same (sym y.1 ∙ two_steps_lem.0)))

  -- ---- points

  -- after 0 at 5 the run is in location 1 at every later tick, timer 0 with the ticks since its start
  pub B-point : (d : ℕ) → Point B v one_step (record { location = 1; time = 5 + d; counts = λ j. restarted (0 ∷ []) (grown 5 v) j + d })
  unfolding charts_compute B one_step
  B-point d = (point_iff B v one_step _).1 (1, d, refl)

  -- and never there at an earlier one
  pub B-no-point : (s : State) → s.location ≡ 1 → s.time ≡ 4 → Point B v one_step s → ⊥
  unfolding charts_compute B one_step
  B-no-point s here early p = let x = (point_iff B v one_step s).0 p in go x.0 x.1 x.2
    where
      go : (n d : ℕ) → then (outcome every_time B v (take n one_step)) (λ x. returned (waited d x)) ≡ returned s → ⊥
      go zero d e = let z : ◌≡◌ {A = ℕ} 0 1 = ap (λ (y : State). y.location) (result_same e) ∙ here in omega arith
      go (suc n) d e = let z : 5 + d ≡ 4 = ap (λ (y : State). y.time) (result_same (rw (take-nil n) at e)) ∙ early in omega arith

-- ---- plans: first fit's (`board_plan`), another one, and a numbering that is none

-- the live timers of an accepted chart with the numbers that they have in it
module _ {W : ℕ} {c : Chart} (valid : Valid W c) where
  drawn_number_iff : (q j k : ℕ) → Has (drawn_numbers c) q j k ↔ (Live c q j × (j ≡ k))
  unfolding drawn_numbers live_numbers
  drawn_number_iff q j k = (λ e. out (live c q j) refl e, λ x. rw ((live_iff valid q j).1 x.0, live_numbers) (ap some x.1))
    where
      out : (b : Bool) → live c q j ≡ b → Has (drawn_numbers c) q j k → Live c q j × (j ≡ k)
      out true h e = ((live_iff valid q j).0 h, some-injective _ _ (rw (h, live_numbers) at e))
      out false h e = absurd (none-ne-some _ (rw (h, live_numbers) at e))

  pub drawn_numbers_plan : Accepted c → Plan c (drawn_numbers c)
  drawn_numbers_plan accepted = record {
    begins = λ j k e. accepted.no_unstarted_test _ (live_unstarted ((drawn_number_iff c.initial j k).0 e).0);
    reads = λ q j x r. (j, (drawn_number_iff q j j).1 (live_here r, refl));
    keeps = λ i r j k n x f e.
        let y = (drawn_number_iff r.target j k).0 e in
        (drawn_number_iff r.source j k).1 (live_back n f y.0, y.1);
    apart = λ q j j' k x e e' i r n y.
        ap (λ (t : ℕ). memb t r.starts) (((drawn_number_iff q j k).0 e).1 ∙ sym ((drawn_number_iff q j' k).0 e').1);
    below = λ q j k e. let y = (drawn_number_iff q j k).0 e in unfold drawn_numbers live_numbers in (rw (← y.1) (live_inside valid y.0).timer);
  }

-- a case marked ★
pub B-rewritten : rewriting 16 B ≡ returned (record { used = 1; chart = B' })
unfolding case starred unnoticed ask
B-rewritten =
    let reply : rewriting-reply (rewriting 16 B) ≡ rewriting-reply (returned (record { used = 1; chart = B' }))
    = ap (λ (l : List Reply). get_or l 4 (sets [])) starred_hold in
    cc

pub B-valid : Valid 2 B
unfolding B drawn arrow test
B-valid = omega arith

-- of B they are another plan than first fit's, which uses one number
pub B-other-plan : Plan B (drawn_numbers B) × (drawn_numbers B ≡ board_numbering (reached_part B) → ⊥)
unfolding B drawn drawn_numbers live_numbers board_numbering through numbering
B-other-plan =
    let made = rewriting_is 16 B _ B-rewritten in (
      drawn_numbers_plan B-valid ((accepted B-valid).0 made.accepted),
      λ e. let z : ◌≡◌ {A = ℕ} 2 1 = ap (λ (N : Numbering). N.used) e ∙ sym made.used in omega arith,
    )

A-live : live_sets A ≡ 0 ∷ 1 ∷ 3 ∷ 6 ∷ 5 ∷ 4 ∷ 0 ∷ []
unfolding charts_compute A
A-live = refl

-- at location 2 timers 0 and 1 would share number 0, but transition 0 starts only timer 0
pub one_number_no_plan : Plan A one_number → ⊥
unfolding A drawn arrow test one_number live_numbers live member memb
one_number_no_plan P =
    true≢false
    (P.apart 2 0 1 0 two (rw (A-live, live_numbers) refl) (rw (A-live, live_numbers) refl) 0 _ (record { there = refl })
    (record { path = []; leads = refl }))
  where
    two : Reached A 2
    two = record { path = 0 ∷ 1 ∷ []; leads = (_, record { there = refl }, refl, (_, record { there = refl }, refl, refl)) }

-- ---- rounds: the bounds `rounds_accepted` and `rounds_most` are reached, by charts of two locations

loop_started_lem : judged loop_started ≡ returned loop_started
unfolding charts_compute loop_started
loop_started_lem = refl

loop_not_started_lem : judged loop_not_started ≡ refused 10 1
unfolding charts_compute loop_not_started
loop_not_started_lem = refl

loops_storable : Storable loop_started × Storable loop_not_started
unfolding charts_compute loop_started loop_not_started
loops_storable = (record { known = refl; valid = omega arith }, record { known = refl; valid = omega arith })

loop_rounds : (live_rounds loop_started ≡ loop_started.locations) × (live_rounds loop_not_started ≡ suc loop_not_started.locations)
unfolding charts_compute loop_started loop_not_started
loop_rounds = (refl, refl)

-- an accepted chart with as many rounds as locations
pub most_rounds_accepted : Storable loop_started × Accepted loop_started × (live_rounds loop_started ≡ loop_started.locations)
most_rounds_accepted = let s = loops_storable.0 in (s, (accepted s.valid).0 loop_started_lem, loop_rounds.0)

-- and one that a file can hold, but that is refused, with one round more
pub most_rounds : Storable loop_not_started × (judged loop_not_started ≡ refused 10 1)
    × (live_rounds loop_not_started ≡ suc loop_not_started.locations)
most_rounds = (loops_storable.1, loop_not_started_lem, loop_rounds.1)

-- ---- charts with the same transitions: last-to-first (AnyOrder) is an example; here are two that have not

pub stricter_other_transitions : SameTransitions B stricter → ⊥
unfolding B stricter drawn arrow test
stricter_other_transitions s = let e = s.there _ (record { place = 1; is_nth = refl }) in none e.place e.is_nth
  where
    -- source and constants of a transition
    told : Transition → ℕ × List ℕ
    told r = (r.source, map (λ (t : Test). t.constant) r.tests)

    none : (k : ℕ) → get_elem? stricter.transitions k ≡ get_elem? B.transitions 1 → ⊥
    none zero e = omega (arith, ap (λ r. (told r).0) (some-injective _ _ e))
    none (suc zero) e = omega (arith, ap (λ r. get_or (told r).1 0 0) (some-injective _ _ e))
    none (suc (suc zero)) e = omega (arith, ap (λ r. (told r).0) (some-injective _ _ e))
    none (suc (suc (suc k))) e = none-ne-some _ e
