-- On an accepted chart the wait before the first step may be of any length: only the ticks between two steps have to be fewer than 65,536, and
-- neither the counts nor the reading at tick 0 decide anything. Hard: the readings add up to times that are all too early by some multiple of 65,536.
use mathlib.Core.Path.{◌≡◌, refl, sym, ap, ap₂, ◌∙◌, fun_ext}
use mathlib.Core.Logic.{◌↔◌}
use mathlib.Core.Bool.{false}
use mathlib.Core.Option.{Option, none, some}
use mathlib.Core.List.{List, [], ◌∷◌, map}
use Prim.Native.Nat.{ℕ, suc, ◌+◌, ◌-◌, ◌%◌, ◌≤◌, ◌<◌}
use native.Mathlib.Omega.{arith}
use lib.Dec.{leb, eqb}
use lib.ListN.{get_elem?}
use borrow.Author.Tests.{leb-true, le-leb}
use Rattle.lists.proofs.Bools.{same_bool}
use Rattle.model.specs.Answer.{returned}
use Rattle.model.specs.Chart.{Transition, Chart, Nth}
use Rattle.model.specs.Version.{large_constant}
use Rattle.model.specs.Valid.{Valid}
use Rattle.model.specs.Run.{Counts, State, Step, grown, restarted, after, enabled, attempt, steps, begin, outcome, every_time, player_time}
use Rattle.model.specs.Judge.{judged}
use Rattle.model.specs.Player.{answer_of, steps_of}
use Rattle.model.proofs.Answers.{Matching, match_unless, match_then, match_same}
use Rattle.model.proofs.Steps.{attempt_none, attempt_some}
use Rattle.counter_model.specs.Counter.{counter_numbers, ticks_passed, reading_at, readings_at, times_of}
use Rattle.counter_model.specs.CounterPlayer.{counter_answer_of}
use Rattle.counter_model.specs.CounterClaim.{NeverFallFrom, FewTicksFrom, NeverFall, FewTicksAfterFirst, SpacedAfterFirst, without_time}
use Rattle.counter_model.proofs.Ticks.{times_back}
use Rattle.counter_model.proofs.AddedUp.{arrived_at, no_time, added_up}
use Rattle.counter_model.proofs.ChartClaim.{none_late_own, any_counts}

-- all times later by d
abbrev later : ℕ → List ℕ → List ℕ
later d ts = map (λ t. t + d) ts

-- ---- the times

times_later : (d last t : ℕ) (rs : List ℕ) → times_of last (t + d) rs ≡ later d (times_of last t rs)
unfolding times_of
times_later d last t [] = refl
times_later d last t (now ∷ rs) =
    let e : t + d + ticks_passed last now ≡ t + ticks_passed last now + d = omega arith in
    rw e (ap (λ (l : List ℕ). (t + ticks_passed last now + d) ∷ l) (times_later d now (t + ticks_passed last now) rs))

-- the ticks that the first wait loses
abbrev lost : (t : ℕ) → ℕ
lost t = t - t % counter_numbers

module _ (first t : ℕ) (below : first < counter_numbers) where
  first_ticks : 0 + ticks_passed first (reading_at first t) + lost t ≡ t
  unfolding ticks_passed reading_at
  first_ticks = omega arith

  -- but for these, the times are what their readings add up to
  times_lost : (ts : List ℕ) → NeverFallFrom t ts → FewTicksFrom t ts
      → later (lost t) (times_of first 0 (readings_at first (t ∷ ts))) ≡ t ∷ ts
  unfolding times_of readings_at
  times_lost ts up few =
      ap₂ (λ (x : ℕ) (l : List ℕ). x ∷ l) first_ticks
      (sym (times_later (lost t) (reading_at first t) (0 + ticks_passed first (reading_at first t)) (readings_at first ts))
      ∙ ap (λ (x : ℕ). times_of (reading_at first t) x (readings_at first ts)) first_ticks
      ∙ times_back first t ts up few)

-- without a first reading there is nothing
none_later : (d first : ℕ) → later d (times_of first 0 (readings_at first [])) ≡ []
unfolding times_of readings_at
none_later d first = refl

-- from a first reading on
some_later : (d first now : ℕ) (rs : List ℕ) → let t = 0 + ticks_passed first now + d in later d (times_of first 0 (now ∷ rs)) ≡ t ∷ times_of now t rs
unfolding times_of
some_later d first now rs =
    let t : ℕ = 0 + ticks_passed first now in
    ap (λ (l : List ℕ). (t + d) ∷ l) (sym (times_later d now t rs))

-- whatever the counter shows at tick 0, the times are the same but for a wait before the first step
same_later : (first first' : ℕ) (rs : List ℕ)
    → (d d' : ℕ) × (later d (times_of first 0 rs) ≡ later d' (times_of first' 0 rs))
unfolding times_of
same_later first first' [] = (0, 0, refl)
same_later first first' (now ∷ rs) =
    let d : ℕ = ticks_passed first' now in
    let d' : ℕ = ticks_passed first now in
    let e : 0 + d' + d ≡ 0 + d + d' = omega arith in
    (d, d', some_later d first now rs ∙ ap (λ (t : ℕ). t ∷ times_of now t rs) e ∙ sym (some_later d' first' now rs))

-- ---- the steps

abbrev step_at : (i t : ℕ) → Step
step_at i t = record { transition = i; time = t }

-- z stands as s does, and each step of s is a step of z later by d
record Later (d : ℕ) (s z : State) : Type 0 where
  pub location : s.location ≡ z.location
  pub in_order : (t : ℕ) → (s.time ≤ t) ↔ (z.time ≤ t + d)
  pub counts : (t j : ℕ) → s.time ≤ t → s.counts j + (t - s.time) ≡ z.counts j + (t + d - z.time)

module _ (c : Chart) (d : ℕ) where
  attempt_later : (n i t : ℕ) (s z : State) → Later d s z
      → Matching (Later d) (attempt every_time c n s (step_at i t)) (attempt every_time c n z (step_at i (t + d)))
  unfolding every_time after grown
  attempt_later n i t s z l = go (get_elem? c.transitions i) refl
    where
      order : leb s.time t ≡ leb z.time (t + d)
      order =
          same_bool _ _ (λ h. le-leb z.time (t + d) ((l.in_order t).0 (leb-true s.time t h)))
          (λ h. le-leb s.time t ((l.in_order t).1 (leb-true z.time (t + d) h)))

      counts : s.time ≤ t → grown (t - s.time) s.counts ≡ grown (t + d - z.time) z.counts
      counts h = fun_ext (λ j. l.counts t j h)

      taken : (r : Transition) → s.time ≤ t → Later d (after r s t) (after r z (t + d))
      taken r h = record {
        location = refl;
        in_order = λ u. omega arith;
        counts = λ u j b. omega (arith, ap (λ (v : Counts). restarted r.starts v j) (counts h));
      }

      go : (o : Option Transition) → get_elem? c.transitions i ≡ o
          → Matching (Later d) (attempt every_time c n s (step_at i t)) (attempt every_time c n z (step_at i (t + d)))
      go none h = rw (attempt_none every_time c n s (step_at i t) h, attempt_none every_time c n z (step_at i (t + d)) h) (refl, refl)
      go (some r) h =
          let m : Nth c i r = record { there = h } in
          rw (attempt_some every_time c n s (step_at i t) m, attempt_some every_time c n z (step_at i (t + d)) m) (
          match_unless _ 22 n _ _ (ap (eqb r.source) l.location) (λ from.
          match_unless _ 23 n _ _ order (λ up.
          match_unless _ 24 n _ _ (ap (enabled c r) (counts (leb-true s.time t up))) (λ met.
          taken r (leb-true s.time t up)))))

  steps_later : (is ts : List ℕ) (n : ℕ) (s z : State) → Later d s z
      → Matching (Later d) (steps every_time c n s (steps_of is ts)) (steps every_time c n z (steps_of is (later d ts)))
  unfolding steps steps_of
  steps_later [] ts n s z l = l
  steps_later (i ∷ is) [] n s z l = l
  steps_later (i ∷ is) (t ∷ ts) n s z l =
      match_then (Later d) (Later d) (attempt every_time c n s (step_at i t)) (attempt every_time c n z (step_at i (t + d)))
      (λ s. steps every_time c (suc n) s (steps_of is ts)) (λ z. steps every_time c (suc n) z (steps_of is (later d ts)))
      (steps_later is ts (suc n)) (attempt_later n i t s z l)

  -- a first wait that is longer by d, from counts that are lower by d
  answer_later : (v : Counts) (is ts : List ℕ)
      → without_time (answer_of every_time c (grown d v) (steps_of is ts)) ≡ without_time (answer_of every_time c v (steps_of is (later d ts)))
  unfolding answer_of outcome begin grown
  answer_later v is ts =
      no_time c (outcome every_time c (grown d v) (steps_of is ts))
      ∙ match_same (Later d) (outcome every_time c (grown d v) (steps_of is ts)) (outcome every_time c v (steps_of is (later d ts)))
      (λ s. arrived_at c s.location) (λ s. arrived_at c s.location) (λ s z l. ap (arrived_at c) l.location)
      (steps_later is ts 0 (begin c (grown d v)) (begin c v)
      (record { location = refl; in_order = λ t. omega arith; counts = λ t j h. omega arith }))
      ∙ sym (no_time c (outcome every_time c v (steps_of is (later d ts))))

-- ---- an accepted chart

module _ {W : ℕ} (c : Chart) (valid : Valid W c) (accepted : judged c ≡ returned c) (small : large_constant c ≡ false) where
  -- the board, from any counts, against the step list at times that are later by d
  played_later : (d first : ℕ) (v w : Counts) (is rs ts : List ℕ) → later d (times_of first 0 rs) ≡ ts
      → counter_answer_of c first w is rs ≡ without_time (answer_of every_time c v (steps_of is ts))
  played_later d first v w is rs ts e =
      added_up c small w first is rs
      ∙ ap without_time ((any_counts c valid accepted).0 w (grown d v) (steps_of is (times_of first 0 rs)))
      ∙ answer_later c d v is (times_of first 0 rs)
      ∙ ap (λ (us : List ℕ). without_time (answer_of every_time c v (steps_of is us))) e

  -- it answers as the player, whatever the wait before the first step
  pub accepted_claim : (v w : Counts) (first : ℕ) → first < counter_numbers → (is ts : List ℕ) → SpacedAfterFirst ts
      → counter_answer_of c first w is (readings_at first ts) ≡ without_time (answer_of player_time c v (steps_of is ts))
  accepted_claim v w first below is ts s =
      go ts s.never_fall s.few_ticks ∙ ap without_time (sym (none_late_own c v is ts s.none_late))
    where
      go : (us : List ℕ) → NeverFall us → FewTicksAfterFirst us
          → counter_answer_of c first w is (readings_at first us) ≡ without_time (answer_of every_time c v (steps_of is us))
      go [] up few = played_later 0 first v w is _ [] (none_later 0 first)
      go (t ∷ us) up few = played_later (lost t) first v w is _ _ (times_lost first t below us (λ n l. up (suc n) (omega arith)) few)

  -- and from any counts alike, whatever the counter shows at tick 0
  pub same_from_any : (v w : Counts) (first first' : ℕ) (is rs : List ℕ) → counter_answer_of c first v is rs ≡ counter_answer_of c first' w is rs
  same_from_any v w first first' is rs =
      let x = same_later first first' rs in
      played_later x.0 first v v is rs _ x.2 ∙ sym (played_later x.1 first' v w is rs _ refl)
