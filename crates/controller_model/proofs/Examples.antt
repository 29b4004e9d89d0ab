-- The relations of the promise by examples: of each one that holds and one that is shown not to, for two heads with chart B, or one with a choice.
-- All is computed, but for the files, which are read back by law.
use mathlib.Core.Path.{◌≡◌, refl, sym, ap, ◌∙◌}
use mathlib.Core.Bool.{true}
use mathlib.Core.Option.{some-injective}
use mathlib.Core.List.{List, [], ◌∷◌, ◌++◌}
use Prim.Native.Nat.{ℕ, zero, suc, ◌+◌, ◌≤◌, ◌<◌}
use native.Mathlib.Omega.{arith}
use lib.ListN.{length, get_or, take, drop}
use lib.Seq.{take-append_seam, drop-append_seam}
use Rattle.lists.specs.Lists.{lowest, gather, up_to, sum_of}
use Rattle.comparison.specs.declared.Comparison.TheVariants.{Below}
use Rattle.model.specs.Answer.{returned, nowhere}
use Rattle.model.specs.Version.{known_version, width_of}
use Rattle.model.specs.Chart.{Transition}
use Rattle.model.specs.Run.{State, grown, restarted}
use Rattle.model.specs.Cases.{arrow, test, drawn, B}
use Rattle.model.specs.Examples.{one_step}
use Rattle.model.proofs.Computing.{charts_compute}
use Rattle.model.proofs.Answers.{result_refused, result_same}
use Rattle.model.proofs.RewritingAlike.{rewriting_is}
use Rattle.model.proofs.Examples.{B-rewritten, B-valid}
use Rattle.file_format.specs.Parse.{write_all}
use Rattle.file_format.specs.File.{file_of}
use Rattle.file_format.proofs.File.{chart_survives}
use Rattle.judgement.specs.Judging.{judged_in}
use Rattle.player.proofs.Files.{play_is}
use Rattle.controller_model.specs.declared.Head.{Head}
use Rattle.controller_model.specs.declared.Controller.{Controller}
use Rattle.controller_model.specs.Parts.{offset, part_of, in_order, every_below, stretch}
use Rattle.controller_model.specs.Heads.{allowed_number, charts_in, long_enough, blocks_fit, heads_judged}
use Rattle.controller_model.specs.Serving.{head_at, waits, next_turn, passed, leave, served, turned, Done}
use Rattle.controller_model.specs.Controlling.{sound_waiting, sound_head, sound_at, sound_state, state_judged, done_by, called}
use Rattle.controller_model.specs.Controlling.{Call, event, turn, after_calls, turns_in}
use Rattle.controller_model.specs.Cases.{head_input, files_of, heads_of, two_b, choice, state_with, waiting_at}
use Rattle.controller_model.specs.Promise.{OnItsRun, OnBoard, CanTake, ServedBy, OnlyHead, Serves}
use Rattle.controller_model.specs.Promise.ServedBy.{takes, takes_none}
use Rattle.controller_model.specs.Examples.{both_at_start, started, first_at, second_waits, choosing, chosen}
use Rattle.controller_model.proofs.Computing.{controller_compute}
use Rattle.controller_model.proofs.ListParts.{offset_apart}
use Rattle.controller_model.proofs.SetUp.{accepted_judged}

-- ---- what a call leaves alone

-- head 0 moves, with its own counts
pub first_only : OnlyHead 0 0 2 started (first_at 1 3 15)
unfolding both_at_start started first_at state_with
first_only = record { heads = heads; before = λ i l. absurd (omega arith); behind = behind }
  where
    heads : (g : ℕ) → (g ≡ 0 → ⊥) → head_at (first_at 1 3 15) g ≡ head_at started g
    heads zero d = absurd (d refl)
    heads (suc g) d = refl

    behind : (i : ℕ) → 2 ≤ i → get_or (first_at 1 3 15).counts i 0 ≡ get_or started.counts i 0
    behind zero l = absurd (omega arith)
    behind (suc zero) l = absurd (omega arith)
    behind (suc (suc i)) l = refl

-- not where a count before head 1's timers differs, or one behind head 0's; nor for head 1 where head 0 moves
pub others_changed : (OnlyHead 1 2 2 started (both_at_start (7 ∷ 8 ∷ 0 ∷ 0 ∷ [])) → ⊥)
    × (OnlyHead 0 0 2 started (both_at_start (7 ∷ 7 ∷ 1 ∷ 0 ∷ [])) → ⊥)
    × (OnlyHead 1 0 4 started (first_at 1 3 15) → ⊥)
unfolding both_at_start started first_at state_with
others_changed = (
  λ x. omega (arith, x.before 1 (omega arith)),
  λ x. omega (arith, x.behind 2 (omega arith)),
  λ x. omega (arith, ap (λ (d : Head). d.location) (x.heads 0 (λ e. omega arith))),
)

-- ---- blocks

pub two_on_board : OnBoard 4 (2 ∷ 2 ∷ []) (B ∷ B ∷ []) 0 B
unfolding controller_compute B
two_on_board = record { in_block = omega arith; on_board = omega arith; apart = λ g l m. offset_apart (2 ∷ 2 ∷ []) 0 g l }

-- a block that is too short, and a board that is too small
pub not_on_board : (OnBoard 4 (1 ∷ 2 ∷ []) (B ∷ B ∷ []) 0 B → ⊥) × (OnBoard 1 (2 ∷ 2 ∷ []) (B ∷ B ∷ []) 0 B → ⊥)
unfolding controller_compute B
not_on_board = (λ x. omega (arith, x.in_block), λ x. omega (arith, x.on_board))

-- ---- the files

B-judged : judged_in (file_of B) ≡ returned B
unfolding judged_in B drawn known_version width_of
B-judged = rw (chart_survives B (record { known = refl; valid = B-valid }), judged_in) (rewriting_is 16 B _ B-rewritten).accepted

two_b_judged : heads_judged (files_of two_b) (heads_of two_b) 4 ≡ returned (B ∷ B ∷ [])
unfolding head_input write_all files_of heads_of two_b allowed_number blocks_fit long_enough charts_in
    part_of stretch offset in_order every_below sum_of lowest gather up_to B drawn
two_b_judged = accepted_judged (files_of two_b) (heads_of two_b) 4 (B ∷ B ∷ []) (record {
  number = refl;
  are = both (take-append_seam f (f ++ [])) (second (length f + 0) (omega arith));
  timers = refl;
  blocks = refl;
})
  where
    f : List ℕ
    f = file_of B

    second : (n : ℕ) → n ≡ length f → take (length f) (drop n (f ++ (f ++ []))) ≡ f
    second n e = rw (e, drop-append_seam) (take-append_seam f [])

    both : {x y : List ℕ} → x ≡ f → y ≡ f → in_order (judged_in x ∷ judged_in y ∷ []) ≡ returned (B ∷ B ∷ [])
    both d e = rw (d, e, B-judged, in_order) refl

-- ---- a head on its run: B's transition 0 at 5, from counts 7 and 7

abbrev FirstOnRun : (counts : List ℕ) → (location count₀ count₁ : ℕ) → Type 0
FirstOnRun counts q v w = OnItsRun B (file_of B) counts 0 (first_at q v w) 0 one_step

-- at 8 it has been at location 1 for 3 ticks
pub first_on_run : FirstOnRun (7 ∷ 7 ∷ []) 1 3 15
unfolding charts_compute B first_at state_with one_step
first_on_run = record {
  left = _;
  run = record { ends = refl };
  location = refl;
  earlier = omega arith;
  shows = shows;
  plays = play_is (file_of B) (7 ∷ 7 ∷ []) (0 ∷ []) (5 ∷ []) ∙ rw B-judged refl;
}
  where
    shows : (j : ℕ) → j < 2 → get_or (first_at 1 3 15).counts (0 + j) 0 ≡ restarted (0 ∷ []) (grown 5 (λ j. get_or (7 ∷ 7 ∷ []) j 0)) j + 3
    shows zero l = refl
    shows (suc zero) l = refl
    shows (suc (suc j)) l = absurd (omega arith)

-- neither at location 3, nor with another count of timer 1, nor from one count, which the player refuses
pub first_not_on_run : (FirstOnRun (7 ∷ 7 ∷ []) 3 3 15 → ⊥) × (FirstOnRun (7 ∷ 7 ∷ []) 1 3 16 → ⊥) × (FirstOnRun (7 ∷ []) 1 3 8 → ⊥)
unfolding charts_compute B first_at state_with one_step
first_not_on_run = (
  λ x. let e = result_same x.run.ends in omega (arith, x.location, ap (λ (s : State). s.location) e),
  λ x.
      let e = result_same x.run.ends in
      omega (arith, x.shows 1 (omega arith), ap (λ (s : State). s.counts 1) e, ap (λ (s : State). s.time) e),
  λ x. result_refused {n = 12} {p = nowhere} x.plays (play_is (file_of B) (7 ∷ []) (0 ∷ []) (5 ∷ []) ∙ rw B-judged refl),
)

-- ---- turns: head 1's event waits and it is head 0's turn

abbrev SecondServed : (m : ℕ) → List Call → Type 0
SecondServed m ks = Serves (files_of two_b) (heads_of two_b) 4 (B ∷ B ∷ []) 1 0 5 m second_waits ks

-- a turn on a state that 32 does not refuse
turn_done : (s : Controller) → sound_state (2 ∷ 2 ∷ []) (B ∷ B ∷ []) s ≡ true
    → called (files_of two_b) (heads_of two_b) 4 s turn ≡ returned (turned (2 ∷ 2 ∷ []) (B ∷ B ∷ []) s)
unfolding called state_judged heads_of two_b head_input done_by
turn_done s e = rw (two_b_judged, e, called) refl

first_passes : called (files_of two_b) (heads_of two_b) 4 second_waits turn ≡ returned (passed 2 second_waits)
unfolding sound_waiting sound_head sound_at sound_state every_below stretch offset sum_of lowest waits turned second_waits state_with waiting_at
    B drawn
first_passes = turn_done second_waits refl

-- the second turn serves it
pub second_served : SecondServed 2 (turn ∷ turn ∷ [])
unfolding sound_waiting sound_head sound_at sound_state every_below stretch offset sum_of lowest waits turned second_waits state_with waiting_at
    B drawn after_calls turns_in passed next_turn served leave heads_of two_b head_input
second_served = record {
  before = turn ∷ [];
  rest = [];
  parts = refl;
  few = omega arith;
  chart = B;
  is_chart = refl;
  still = rw first_passes refl;
  same_event = rw first_passes refl;
  same_time = rw first_passes refl;
  serves = rw first_passes (turn_done (passed 2 second_waits).state refl);
  gone = rw first_passes refl;
}

-- the first does not, whatever comes after it
pub second_not_first : (ks : List Call) → SecondServed 1 (turn ∷ ks) → ⊥
unfolding after_calls turns_in passed next_turn served leave second_waits state_with
second_not_first ks x =
    let b : x.before ≡ [] = first x.before x.parts x.few in
    let d : Done = served 2 (heads_of two_b).blocks x.chart 1 second_waits in
    omega (arith, ap (λ (y : Done). y.state.turn) {y = d} (result_same {b = d} (sym first_passes ∙ rw b at x.serves)))
  where
    first : (b : List Call) → turn ∷ ks ≡ b ++ turn ∷ x.rest → turns_in b < 1 → b ≡ []
    first [] e l = refl
    first (turn ∷ b) e l = absurd (omega arith)
    first (event h k t ∷ b) e l = cc

-- ---- what is taken: at count 2 the transitions 1 and 2 can be

first_can : CanTake choice 0 choosing 0 1 (arrow 1 2 [] (test 0 Below 3 ∷ []))
unfolding controller_compute choice choosing state_with waiting_at
first_can = record { is_nth = record { there = refl }; leaves = refl; on_event = refl; tests_met = refl }

-- the lower one is taken
pub lower_taken : ServedBy choice 0 choosing (chosen 1 2)
unfolding controller_compute choice choosing chosen state_with waiting_at
lower_taken = takes 1 _ first_can lower refl (record { head = refl; counts = counts })
  where
    lower : (k : ℕ) (q : Transition) → k < 1 → CanTake choice 0 choosing 0 k q → ⊥
    lower zero q l y = omega (arith, y.leaves, ap (λ (r : Transition). r.source) (some-injective _ _ y.is_nth.there))
    lower (suc k) q l y = absurd (omega arith)

    counts : (j : ℕ) → j < 1 → get_or (chosen 1 2).state.counts (0 + j) 0 ≡ get_or (stretch 0 1 choosing.counts) j 0 + 2
    counts zero l = refl
    counts (suc j) l = absurd (omega arith)

-- and not the higher one
pub higher_not_taken : ServedBy choice 0 choosing (chosen 2 0) → ⊥
unfolding choosing chosen state_with
higher_not_taken (takes i r can lower e left) = let n : 2 ≡ i = cc in lower 1 _ (omega arith) first_can
higher_not_taken (takes_none none e left) = none 1 _ first_can
