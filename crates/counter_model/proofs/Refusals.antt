-- Which refusals the counter board gives on a file: up to 13 exactly those of the player, 18 exactly where all that is handed in passes these and
-- some constant is over 65,535, and then those of the steps; and what a result says. The answers of both are one judgement of what is handed in, and
-- then what each makes of the chart.
use mathlib.Core.Path.{◌≡◌, refl, sym, ◌∙◌, subst}
use mathlib.Core.Logic.Iff
use mathlib.Core.Logic.{◌⊎◌, inl, inr, ◌↔◌}
use mathlib.Core.Bool.{Bool, true, false, not, true≢false}
use mathlib.Core.Option.{some}
use mathlib.Core.List.{List, [], ◌∷◌}
use Prim.Native.Nat.{ℕ, ◌≤◌, ◌<◌}
use native.Mathlib.Omega.{arith}
use lib.Dec.{eqb}
use lib.ListN.{length, get_or, get_elem?}
use borrow.Author.Tests.{eq-eqb}
use Rattle.lists.specs.Lists.{memb, any_of}
use Rattle.lists.proofs.Bools.{not_both, not-true, same_number}
use Rattle.lists.proofs.Membership.{any_memb_in, memb_least}
use Rattle.model.specs.Answer.{Answer, returned, refused, then, unless, nowhere}
use Rattle.model.specs.Chart.{Chart}
use Rattle.model.specs.Version.{width_of, large_constant}
use Rattle.model.specs.Valid.{Valid}
use Rattle.model.specs.Places.{LowestUnreached, LowestUnstarted, HasUnreached}
use Rattle.model.specs.Run.{player_time}
use Rattle.model.specs.Player.{Arrival, answer_of, steps_of}
use Rattle.model.specs.PlayerTerms.{CountsAllowed}
use Rattle.model.proofs.Answers.{result_same, refused_same, unless_result, then_result, then_refused}
use Rattle.model.proofs.PlayerNumbers.{answer_numbers}
use Rattle.model.proofs.Versions.{narrow_small, large_iff}
use Rattle.file_format.specs.Parse.{Bytes}
use Rattle.file_format.specs.File.{chart_in}
use Rattle.file_format.proofs.File.{reads_valid}
use Rattle.judgement.specs.Judging.{judged_in}
use Rattle.judgement.specs.Charts.{HoldsChart, Accepts}
use Rattle.judgement.proofs.Corollaries.{judged_numbers, judged_9, judged_10, somewhere, unreached_in_lem, never_unreached}
use Rattle.player.specs.Playing.{play_answer}
use Rattle.player.specs.Refusals.{RefusalOfPlay}
use Rattle.player.specs.Refusals.RefusalOfPlay.{of_judgement as play-judgement, of_counts as play-counts, of_lengths as play-lengths}
use Rattle.player.specs.Refusals.RefusalOfPlay.{of_step as play-step}
use Rattle.player.proofs.Files.{play_is}
use Rattle.player.proofs.Refusals.{play_judged, refusals_of_play}
use Rattle.counter_model.specs.CounterPlayer.{CounterArrival, counter_answer_of, counter_answer}
use Rattle.counter_model.specs.Refusals.{RefusalOfCounter, ConstantRefused, CounterArrived}
use Rattle.counter_model.specs.Refusals.RefusalOfCounter.{of_judgement, of_counts, of_lengths, of_constants, of_step}
use Rattle.counter_model.proofs.StepPlaces.{counter_step_numbers, answer_place}
use Rattle.player.proofs.InputsJudged.{inputs_judged, inputs_first, early, inputs_refused, inputs_result}

-- ---- the board's and the player's answers

module _ (bs counts is : List ℕ) (first : ℕ) (rs : List ℕ) where
  -- one of the steps' numbers, with the number of a step
  abbrev AtStep : (n p : ℕ) → Type 0
  AtStep n p = (memb n counter_step_numbers ≡ true) × ((0 ≤ p) × (p < length is))

  -- after 13: 18, then the steps
  abbrev after_inputs : Chart → Answer CounterArrival
  after_inputs c = unless (not (large_constant c)) 18 nowhere (counter_answer_of c first (λ j. get_or counts j 0) is rs)

  answer_is : counter_answer bs counts is first rs ≡ then (inputs_judged bs counts (eqb (length is) (length rs))) after_inputs
  unfolding counter_answer
  answer_is = inputs_first bs counts (eqb (length is) (length rs)) after_inputs

  after_refused : (c : Chart) {n p : ℕ} → after_inputs c ≡ refused n p
      → ((large_constant c ≡ true) × (n ≡ 18) × (p ≡ nowhere)) ⊎ AtStep n p
  after_refused c {n} {p} = go (large_constant c)
    where
      go : (b : Bool) → unless (not b) 18 nowhere (counter_answer_of c first (λ j. get_or counts j 0) is rs) ≡ refused n p
          → ((b ≡ true) × (n ≡ 18) × (p ≡ nowhere)) ⊎ AtStep n p
      go true e = inl (refl, sym (refused_same e).0, sym (refused_same e).1)
      go false e = inr (answer_place c first _ is rs e)

  late : (c : Chart) {n p : ℕ} → after_inputs c ≡ refused n p → 14 ≤ n
  unfolding any_of
  late c {n} {p} e = go (after_refused c e)
    where
      go : ((large_constant c ≡ true) × (n ≡ 18) × (p ≡ nowhere)) ⊎ AtStep n p → 14 ≤ n
      go (inl h) = omega (arith, h.1)
      go (inr h) = memb_least 14 n _ refl h.0

  -- up to 13 the board judges as the player, called with as many times as there are readings
  pub judges_as_player : (ts : List ℕ) → length ts ≡ length rs → (n p : ℕ) → n ≤ 13
      → (counter_answer bs counts is first rs ≡ refused n p) ↔ (play_answer bs counts is ts ≡ refused n p)
  unfolding any_of memb
  judges_as_player ts h n p l = (
    λ e. player_is ∙ early bs counts same after_inputs played n p l (λ c e. late c e) (sym answer_is ∙ e),
    λ e. answer_is ∙ early bs counts same played after_inputs n p l player_late (sym player_is ∙ e),
  )
    where
      same : Bool
      same = eqb (length is) (length rs)

      played : Chart → Answer Arrival
      played c = answer_of player_time c (λ j. get_or counts j 0) (steps_of is ts)

      player_is : play_answer bs counts is ts ≡ then (inputs_judged bs counts same) played
      player_is = rw (← h) (play_is bs counts is ts ∙ inputs_first bs counts (eqb (length is) (length ts)) played)

      numbers : List ℕ
      numbers = 14 ∷ 15 ∷ 22 ∷ 23 ∷ 24 ∷ []

      player_late : (c : Chart) → played c ≡ refused n p → 14 ≤ n
      player_late c e = memb_least 14 n numbers refl
          ((answer_numbers numbers player_time (λ t e. refl) (refl, refl, refl, refl) c _ _).only n p e)

  -- 1 to 10 come exactly where the judgement of the file gives them
  pub counter_judged : (n p : ℕ) → n ≤ 10 → (counter_answer bs counts is first rs ≡ refused n p) ↔ (judged_in bs ≡ refused n p)
  counter_judged n p l = Iff.trans (judges_as_player rs refl n p (omega arith)) (play_judged bs counts is rs n p l)

  module _ (bytes : Bytes bs) where
    -- 9, below version 3, at the lowest location that no path reaches, 10 at the lowest transition with an unstarted test
    pub counter_9 : (q : ℕ) → (counter_answer bs counts is first rs ≡ refused 9 q) ↔ HoldsChart bs (λ c. LowestUnreached c q)
    counter_9 q = Iff.trans (counter_judged 9 q (omega arith)) (judged_9 bs bytes q)

    pub counter_10 : (i : ℕ) → (counter_answer bs counts is first rs ≡ refused 10 i) ↔ HoldsChart bs (λ c. LowestUnstarted c i)
    counter_10 i = Iff.trans (counter_judged 10 i (omega arith)) (judged_10 bs bytes i)

    -- 9 wherever the version is below 3 and some location is not reached, and in no file of version 3, its first byte
    pub counter_9_when : ((q : ℕ) × (counter_answer bs counts is first rs ≡ refused 9 q)) ↔ HoldsChart bs HasUnreached
    counter_9_when = Iff.trans (somewhere counter_9) (unreached_in_lem bs bytes)

    pub counter_never_9 : get_elem? bs 0 ≡ some 3 → (q : ℕ) → counter_answer bs counts is first rs ≡ refused 9 q → ⊥
    counter_never_9 v q e = never_unreached bs bytes v (counter_9_when.0 (q, e))

    -- ---- every refusal, with its place

    -- as the player, at a constant, or at a step
    data Refused (n p : ℕ) : Type 0 where
      by_inputs : n ≤ 13 → RefusalOfPlay (length is) n p → Refused n p
      by_constant : ConstantRefused bs counts is rs → n ≡ 18 → p ≡ nowhere → Refused n p
      by_step : AtStep n p → Refused n p

    counter_refused : (n p : ℕ) → counter_answer bs counts is first rs ≡ refused n p → Refused n p
    counter_refused n p e = go (then_refused (inputs_judged bs counts same) after_inputs (sym answer_is ∙ e))
      where
        same : Bool
        same = eqb (length is) (length rs)

        later : (c : Chart) → inputs_judged bs counts same ≡ returned c
            → ((large_constant c ≡ true) × (n ≡ 18) × (p ≡ nowhere)) ⊎ AtStep n p → Refused n p
        later c f (inl h) =
            let w = (inputs_result bs counts same bytes c).0 f in
            by_constant (record {
              chart = c;
              accepts = w.1;
              counts_allowed = w.2;
              one_length = same_number w.0;
              large = (large_iff c).0 h.0;
            }) h.1 h.2
        later c f (inr h) = by_step h

        go : (inputs_judged bs counts same ≡ refused n p)
            ⊎ ((c : Chart) × (inputs_judged bs counts same ≡ returned c) × (after_inputs c ≡ refused n p))
            → Refused n p
        go (inl f) =
            let l = inputs_refused bs counts same bytes n p f in
            by_inputs l (refusals_of_play bs counts is rs bytes n p ((judges_as_player rs refl n p l).0 e))
        go (inr f) = later f.0 f.1 (after_refused f.0 f.2)

    pub refusals_of_counter : (n p : ℕ) → counter_answer bs counts is first rs ≡ refused n p → RefusalOfCounter (length is) n p
    unfolding any_of
    refusals_of_counter n p e = go (counter_refused n p e)
      where
        as_play : n ≤ 13 → RefusalOfPlay (length is) n p → RefusalOfCounter (length is) n p
        as_play l (play-judgement h) = of_judgement h
        as_play l (play-counts h q) = of_counts h q
        as_play l (play-lengths h q) = of_lengths h q
        as_play l (play-step h q) = absurd (omega (arith, memb_least 14 n _ refl h))

        go : Refused n p → RefusalOfCounter (length is) n p
        go (by_inputs l h) = as_play l h
        go (by_constant h q r) = of_constants q r
        go (by_step h) = of_step h.0 h.1.1

    -- what is left where all that is handed in passes
    passed : (c : Chart) → Accepts bs c → CountsAllowed c counts → length is ≡ length rs → counter_answer bs counts is first rs ≡ after_inputs c
    passed c a v h = answer_is ∙ rw ((inputs_result bs counts _ bytes c).1 (eq-eqb (length is) (length rs) h, a, v))

    -- 18 exactly where all that is handed in passes and some constant is over 65,535
    pub counter_18 : (p : ℕ) → (counter_answer bs counts is first rs ≡ refused 18 p) ↔ ((p ≡ nowhere) × ConstantRefused bs counts is rs)
    unfolding memb
    counter_18 p = (λ e. out (counter_refused 18 p e), back)
      where
        out : Refused 18 p → (p ≡ nowhere) × ConstantRefused bs counts is rs
        out (by_inputs l h) = absurd (omega arith)
        out (by_constant h q r) = (r, h)
        out (by_step h) = absurd (true≢false (sym h.0))

        back : (p ≡ nowhere) × ConstantRefused bs counts is rs → counter_answer bs counts is first rs ≡ refused 18 p
        back h =
            let w = h.1 in
            passed w.chart w.accepts w.counts_allowed w.one_length ∙ rw ((large_iff w.chart).1 w.large, h.0) refl

    -- numbers that never come
    pub counter_never : (n p : ℕ) → memb n (11 ∷ 15 ∷ 16 ∷ 17 ∷ 20 ∷ 21 ∷ 23 ∷ []) ≡ true → counter_answer bs counts is first rs ≡ refused n p → ⊥
    unfolding memb any_of
    counter_never n p m e = go (refusals_of_counter n p e)
      where
        never : List ℕ
        never = 11 ∷ 15 ∷ 16 ∷ 17 ∷ 20 ∷ 21 ∷ 23 ∷ []

        not_one : (k : ℕ) → memb k never ≡ false → n ≡ k → ⊥
        not_one k h q = not_both (rw q at m) h

        go : RefusalOfCounter (length is) n p → ⊥
        go (of_judgement h) = omega (arith, (judged_numbers h).1, memb_least 11 n never refl m)
        go (of_counts h q) = not_one 12 refl h
        go (of_lengths h q) = not_one 13 refl h
        go (of_constants h q) = not_one 18 refl h
        go (of_step h q) = not_both (any_memb_in (λ k. memb k never) n (14 ∷ 22 ∷ 24 ∷ []) h m) refl

    -- a file of version 1 is never refused 18: its constants have two bytes
    pub version_1_never_18 : (c : Chart) → chart_in bs ≡ returned c → c.version ≡ 1
        → (p : ℕ) → counter_answer bs counts is first rs ≡ refused 18 p → ⊥
    unfolding width_of
    version_1_never_18 c e v p f =
        let w = ((counter_18 p).0 f).1 in
        let same : w.chart ≡ c = result_same (sym w.accepts.reads ∙ e) in
        let narrow : Valid 2 c = subst (λ n. Valid (width_of n) c) v (reads_valid bs c bytes e) in
        not_both ((large_iff c).1 (rw same at w.large)) (narrow_small c narrow)

    -- ---- a result

    -- exactly where all refusals before the steps pass, and the steps come to it
    pub counter_result : (a : CounterArrival) → (counter_answer bs counts is first rs ≡ returned a) ↔ CounterArrived bs counts is first rs a
    counter_result a =
        (out, λ w. passed w.chart w.accepts w.counts_allowed w.one_length ∙ rw w.small_constants w.steps)
      where
        out : counter_answer bs counts is first rs ≡ returned a → CounterArrived bs counts is first rs a
        out e =
            let same = eqb (length is) (length rs) in
            let x = then_result (inputs_judged bs counts same) after_inputs (sym answer_is ∙ e) in
            let c : Chart = x.0 in
            let w = (inputs_result bs counts same bytes c).0 x.1 in
            let y = unless_result (not (large_constant c)) 18 nowhere _ x.2 in
            record {
              chart = c;
              accepts = w.1;
              counts_allowed = w.2;
              one_length = same_number w.0;
              small_constants = not-true (large_constant c) y.0;
              steps = y.1;
            }
