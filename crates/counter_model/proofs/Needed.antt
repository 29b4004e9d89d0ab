-- No proviso of the claim can be left out: for each there is a call that keeps all others, and on which the counter board and the player, without the
-- time, answer differently, or the counter board on the drawn and on the rewritten chart; and the relations of the claim do not hold of everything.
-- Both answers are computed.
use mathlib.Core.Path.{◌≡◌, refl, sym, ap, ◌∙◌}
use mathlib.Core.Bool.{true, false, true≢false}
use mathlib.Core.List.{List, [], ◌∷◌}
use Prim.Native.Nat.{ℕ, zero, suc, ◌-◌, ◌*◌, ◌≤◌, ◌<◌}
use native.Mathlib.Omega.{arith}
use lib.ListN.{length, get_or}
use Rattle.lists.specs.Lists.{up_to}
use Rattle.lists.proofs.Gather.{length_up_to, get_d_up_to}
use Rattle.model.specs.Answer.{Answer, returned, refused, nowhere}
use Rattle.model.specs.Run.{largest_time}
use Rattle.model.specs.Valid.{Valid}
use Rattle.model.specs.Judge.{rewriting}
use Rattle.model.specs.Player.{counts_judged}
use Rattle.model.specs.PlayerTerms.{CountsAllowed}
use Rattle.model.specs.Cases.{B, self_loop, spare_unstarted'}
use Rattle.model.proofs.Computing.{charts_compute}
use Rattle.model.proofs.Answers.{not_result, result_same, refused_same}
use Rattle.model.proofs.PlayerLaws.{counts_allowed}
use Rattle.model.proofs.Forward.{reached_iff}
use Rattle.file_format.specs.File.{file_of}
use Rattle.judgement.specs.Judging.{judged_in}
use Rattle.counter_model.specs.Counter.{counter_numbers, readings_at}
use Rattle.counter_model.specs.CounterPlayer.{CounterArrival}
use Rattle.counter_model.specs.CounterClaim.{EachStepFrom, NeverFall, NoneLate, FewTicks, Spaced, CounterAsPlayer, SameOnCounter}
use Rattle.counter_model.specs.Constants.{LargeSpare}
use Rattle.counter_model.specs.Cases.{arrived, three_tests, large_spare}
use Rattle.counter_model.specs.Examples.{Example, board_called, player_called, board_steps, player_steps, Callable, SmallConstants}
use Rattle.counter_model.specs.Examples.{falling, late, long_wait, long_first_wait, large, single_step, no_steps}
use Rattle.counter_model.proofs.Computing.{counter_compute}

-- ---- the answers, computed

-- of the calls
record Answered (x : Example) (board player : Answer CounterArrival) : Type 0 where
  accepted : judged_in (file_of x.chart) ≡ returned x.chart
  counts_pass : counts_judged x.chart x.counts (returned (tt {0})) ≡ returned tt
  board_is : board_called x ≡ board
  player_is : player_called x ≡ player

answers : Answered falling (refused 24 1) (refused 23 1)
    × Answered late (arrived 0 true) (refused 15 256)
    × Answered long_wait (arrived 2 false) (refused 24 1)
    × Answered large (refused 18 nowhere) (arrived 3 true)
    × Answered (no_steps B (7 ∷ 7 ∷ [])) (arrived 0 false) (arrived 0 false)
    × Answered (no_steps self_loop (0 ∷ [])) (arrived 0 true) (arrived 0 true)
    × Answered (single_step large_spare (0 ∷ [])) (refused 18 nowhere) (arrived 1 true)
    × Answered (single_step spare_unstarted' []) (arrived 1 true) (arrived 1 true)
unfolding counter_compute falling late long_wait large single_step no_steps board_called player_called arrived three_tests large_spare
    B self_loop spare_unstarted'
answers = (
  record { accepted = refl; counts_pass = refl; board_is = refl; player_is = refl },
  record { accepted = refl; counts_pass = refl; board_is = refl; player_is = refl },
  record { accepted = refl; counts_pass = refl; board_is = refl; player_is = refl },
  record { accepted = refl; counts_pass = refl; board_is = refl; player_is = refl },
  record { accepted = refl; counts_pass = refl; board_is = refl; player_is = refl },
  record { accepted = refl; counts_pass = refl; board_is = refl; player_is = refl },
  record { accepted = refl; counts_pass = refl; board_is = refl; player_is = refl },
  record { accepted = refl; counts_pass = refl; board_is = refl; player_is = refl },
)

-- of the step lists alone
steps_answers : ((board_steps long_first_wait ≡ arrived 0 true) × (player_steps long_first_wait ≡ refused 24 0))
    × ((board_steps large ≡ refused 24 2) × (player_steps large ≡ arrived 3 true))
unfolding counter_compute long_first_wait large board_steps player_steps arrived three_tests
steps_answers = ((refl, refl), (refl, refl))

-- of the rewriting
spare_rewritten : rewriting 0 large_spare ≡ returned (record { used = 0; chart = spare_unstarted' })
unfolding counter_compute large_spare spare_unstarted'
spare_rewritten = refl

-- refusals of two numbers, and a result and a refusal, are two answers
numbers_differ : {x y : Answer CounterArrival} (n m p q : ℕ) → (n ≡ m → ⊥) → x ≡ refused n p → y ≡ refused m q → x ≡ y → ⊥
numbers_differ n m p q d e f h = d (refused_same (sym e ∙ h ∙ f)).0

arrival_differs : {x y : Answer CounterArrival} {a : CounterArrival} (n p : ℕ) → x ≡ returned a → y ≡ refused n p → x ≡ y → ⊥
arrival_differs n p e f h = not_result (sym f ∙ sym h ∙ e)

callable : (x : Example) {a b : Answer CounterArrival} → Answered x a b → x.first < counter_numbers → Callable x
callable x w h = record {
  accepted = w.accepted;
  counts_allowed = counts_allowed x.chart x.counts (returned tt) tt w.counts_pass;
  first_small = h;
}

-- ---- the times

-- P holds of each time and the one before it, which is b for the first
abbrev Along : (P : (before now : ℕ) → Type 0) → (b : ℕ) → List ℕ → Type 0
Along P b [] = Unit {0}
Along P b (t ∷ ts) = P b t × Along P t ts

each_step : (P : (before now : ℕ) → Type 0) (b : ℕ) (ts : List ℕ) → Along P b ts → (n : ℕ) → n < length ts
    → P (get_or (b ∷ ts) n 0) (get_or ts n 0)
each_step P b [] a n l = absurd (omega arith)
each_step P b (t ∷ ts) a zero l = a.0
each_step P b (t ∷ ts) a (suc n) l = each_step P t ts a.1 n (omega arith)

never_fall : (ts : List ℕ) → Along (λ b t. b ≤ t) 0 ts → NeverFall ts
never_fall ts a = each_step (λ b t. b ≤ t) 0 ts a

none_late : (ts : List ℕ) → Along (λ b t. t ≤ largest_time) 0 ts → NoneLate ts
none_late ts a = each_step (λ b t. t ≤ largest_time) 0 ts a

few_ticks : (ts : List ℕ) → Along (λ b t. t - b < counter_numbers) 0 ts → FewTicks ts
few_ticks ts a = each_step (λ b t. t - b < counter_numbers) 0 ts a

-- the times of `late` are 65,535 ticks apart
late_steps : (P : (before now : ℕ) → Type 0) → ((n : ℕ) → P (65535 * n) (65535 * suc n)) → EachStepFrom 0 late.times P
unfolding late
late_steps P h n l = rw (before n small, get_d_up_to time 257 n 0 small) (h n)
  where
    time : ℕ → ℕ
    time i = 65535 * suc i

    small : n < 257
    small = rw (length_up_to time 257) at l

    before : (n : ℕ) → n < 257 → get_or (0 ∷ up_to time 257) n 0 ≡ 65535 * n
    before zero l = refl
    before (suc n) l = get_d_up_to time 257 n 0 (omega arith)

-- ---- each proviso is needed

-- a time falls: the board takes it for a wait of 65,535 ticks and refuses 24, the player 23
pub never_fall_needed : Callable falling × SmallConstants falling × NoneLate falling.times × FewTicks falling.times
    × (board_called falling ≡ player_called falling → ⊥)
unfolding charts_compute falling B
never_fall_needed = let w = answers.0 in (
  callable falling w (omega arith),
  refl,
  none_late falling.times (omega arith),
  few_ticks falling.times (omega arith),
  numbers_differ 24 23 1 1 (λ e. omega (arith, e)) w.board_is w.player_is,
)

-- a time is over 16,777,215: the board takes every step, the player refuses 15 at the last
pub none_late_needed : Callable late × SmallConstants late × NeverFall late.times × FewTicks late.times
    × (board_called late ≡ player_called late → ⊥)
unfolding charts_compute late self_loop arrived
none_late_needed = let w = answers.1 in (
  callable late w (omega arith),
  refl,
  late_steps (λ b t. b ≤ t) (λ n. omega arith),
  late_steps (λ b t. t - b < counter_numbers) (λ n. omega arith),
  arrival_differs 15 256 w.board_is w.player_is,
)

-- 65,537 ticks pass at the second step: the board takes them for 1 and the step with them, the player refuses 24
pub few_ticks_needed : Callable long_wait × SmallConstants long_wait × NeverFall long_wait.times × NoneLate long_wait.times
    × (board_called long_wait ≡ player_called long_wait → ⊥)
unfolding charts_compute long_wait B arrived
few_ticks_needed = let w = answers.2 in (
  callable long_wait w (omega arith),
  refl,
  never_fall long_wait.times (omega arith),
  none_late long_wait.times (omega arith),
  arrival_differs 24 1 w.board_is w.player_is,
)

-- 65,536 ticks pass at the first step, the only one: as a step list on the chart, the board takes it, the player refuses 24
pub few_ticks_at_first_needed : CountsAllowed long_first_wait.chart long_first_wait.counts × SmallConstants long_first_wait
    × NeverFall long_first_wait.times × NoneLate long_first_wait.times × (board_steps long_first_wait ≡ player_steps long_first_wait → ⊥)
unfolding charts_compute long_first_wait arrived
few_ticks_at_first_needed = let w = steps_answers.0 in (
  counts_allowed long_first_wait.chart long_first_wait.counts (returned (tt {0})) tt refl,
  refl,
  never_fall long_first_wait.times (omega arith),
  none_late long_first_wait.times (omega arith),
  arrival_differs 24 0 w.0 w.1,
)

-- a constant is over 65,535: on the file the board refuses 18, where the player arrives; and without 18 the board would refuse 24
pub small_constants_needed : Callable large × Spaced large.times × (board_called large ≡ player_called large → ⊥)
    × (board_steps large ≡ player_steps large → ⊥)
unfolding large arrived
small_constants_needed = let w = answers.3 in let v = steps_answers.1 in (
  callable large w (omega arith),
  record {
    never_fall = never_fall large.times (omega arith);
    none_late = none_late large.times (omega arith);
    few_ticks = few_ticks large.times (omega arith);
  },
  λ e. arrival_differs 18 nowhere w.player_is w.board_is (sym e),
  λ e. arrival_differs 24 2 v.1 v.0 (sym e),
)

large_spare_valid : Valid 4 large_spare
unfolding charts_compute large_spare
large_spare_valid = omega arith

-- the only constant over 65,535 is on a transition that leaves a spare location: the board refuses 18 on the drawn file, and arrives on the rewritten
-- one
pub reached_constant_needed : LargeSpare large_spare
    × (rewriting 0 large_spare ≡ returned (record { used = 0; chart = spare_unstarted' }))
    × Callable (single_step large_spare (0 ∷ [])) × Callable (single_step spare_unstarted' [])
    × (board_called (single_step large_spare (0 ∷ [])) ≡ refused 18 nowhere)
    × (board_called (single_step spare_unstarted' []) ≡ arrived 1 true)
unfolding charts_compute large_spare single_step
reached_constant_needed = let w = answers.6 in let v = answers.7 in (
  record {
    large = record {
      number = 1;
      transition = _;
      is_nth = record { there = refl };
      place = 0;
      test = _;
      is_test = refl;
      over = omega arith;
    };
    spare = λ x. true≢false ((reached_iff large_spare_valid 2 (omega arith)).1 x);
  },
  spare_rewritten,
  callable (single_step large_spare (0 ∷ [])) w (omega arith),
  callable (single_step spare_unstarted' []) v (omega arith),
  w.board_is,
  v.board_is,
)

-- ---- what does not hold

-- these times keep not all provisos
pub not_spaced : (Spaced falling.times → ⊥) × (Spaced late.times → ⊥) × (Spaced long_wait.times → ⊥)
unfolding falling late long_wait
not_spaced = (
  λ s. omega (arith, s.never_fall 1 (omega arith)),
  λ s. omega (arith, s.none_late 256 (rw (length_up_to time 257) (omega arith)), get_d_up_to time 257 256 0 (omega arith)),
  λ s. omega (arith, s.few_ticks 1 (omega arith)),
)
  where
    time : ℕ → ℕ
    time i = 65535 * suc i

-- the board does not answer as the player on a chart with a constant over 65,535
pub not_as_player : CounterAsPlayer Spaced (file_of large.chart) large.chart (file_of large.chart) large.chart → ⊥
unfolding board_called player_called
not_as_player x =
    let w = small_constants_needed in
    let allowed = w.0.counts_allowed in
    w.2 (x.answers large.counts large.counts large.first large.transitions large.times allowed allowed w.0.first_small w.1)

-- nor alike on two charts of which one accepts its initial location
pub not_same_on_counter : SameOnCounter (file_of B) B (file_of self_loop) self_loop → ⊥
unfolding board_called no_steps readings_at arrived
not_same_on_counter x =
    let b = answers.4 in
    let l = answers.5 in
    let e = x.answers (7 ∷ 7 ∷ []) (0 ∷ []) 0 0 [] [] (callable (no_steps B (7 ∷ 7 ∷ [])) b (omega arith)).counts_allowed
    (callable (no_steps self_loop (0 ∷ [])) l (omega arith)).counts_allowed in
    true≢false (sym (ap (λ (a : CounterArrival). a.accepting) (result_same (sym b.board_is ∙ e ∙ l.board_is))))

-- nor on a chart and its rewritten one where the only constant over 65,535 is on a transition that leaves a spare location
pub not_same_on_spare : SameOnCounter (file_of large_spare) large_spare (file_of spare_unstarted') spare_unstarted' → ⊥
unfolding board_called single_step arrived
not_same_on_spare x =
    let w = reached_constant_needed in
    let e = x.answers (0 ∷ []) [] 0 0 (0 ∷ []) (readings_at 0 (5 ∷ [])) w.2.counts_allowed w.3.counts_allowed in
    arrival_differs 18 nowhere w.5 w.4 (sym e)
