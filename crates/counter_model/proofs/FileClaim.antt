-- The claim on files: the counter board answers as the player, on a file and on another that the player answers alike on; and alike on both. Both
-- calls judge alike up to 13, and then the laws of charts decide.
use mathlib.Core.Path.{◌≡◌, refl, sym, ap, ◌∙◌}
use mathlib.Core.Logic.{⊎_elim}
use mathlib.Core.Bool.{Bool, true, false, not}
use mathlib.Core.List.{List}
use Prim.Native.Nat.{ℕ, ◌<◌}
use lib.Dec.{eqb}
use lib.ListN.{length, get_or, take, length-map}
use Rattle.model.specs.Answer.{Answer, returned, refused, then, unless, nowhere}
use Rattle.model.specs.Chart.{Chart}
use Rattle.model.specs.Version.{large_constant}
use Rattle.model.specs.Valid.{Valid}
use Rattle.model.specs.Run.{Counts, every_time, player_time}
use Rattle.model.specs.Judge.{judged}
use Rattle.model.specs.Player.{Arrival, counts_judged, steps_of, played_on}
use Rattle.model.specs.PlayerTerms.{CountsAllowed}
use Rattle.model.specs.Equivalence.{SameAnswers}
use Rattle.model.proofs.PlayerNumbers.{judged_either, played_refused}
use Rattle.model.proofs.PlayerLaws.{counts_pass, played_steps}
use Rattle.file_format.specs.Parse.{Bytes}
use Rattle.file_format.specs.File.{chart_in}
use Rattle.file_format.proofs.File.{reads_valid}
use Rattle.judgement.specs.Judging.{judged_in}
use Rattle.judgement.proofs.Corollaries.{judged_reads}
use Rattle.player.specs.Playing.{play_answer}
use Rattle.player.proofs.Files.{play_is}
use Rattle.counter_model.specs.Counter.{counter_numbers, readings_at, times_of}
use Rattle.counter_model.specs.CounterPlayer.{counter_answer_of, counter_played_on, counter_answer}
use Rattle.counter_model.specs.CounterClaim.{Spaced, SpacedAfterFirst, without_time, CounterAsPlayer, SameOnCounter}
use Rattle.counter_model.proofs.Ticks.{spaced_front, readings_front, spaced_after_first}
use Rattle.counter_model.proofs.AddedUp.{added_up}
use Rattle.counter_model.proofs.ChartClaim.{chart_claim, any_counts}
use Rattle.counter_model.proofs.FirstWait.{accepted_claim, same_from_any}

time_unless : (b : Bool) (n p : ℕ) (x : Answer Arrival) → without_time (unless b n p x) ≡ unless b n p (without_time x)
unfolding without_time
time_unless true n p x = refl
time_unless false n p x = refl

-- ---- from the same counts, whatever they are

module _ (counts is : List ℕ) (first : ℕ) (ts : List ℕ) (below : first < counter_numbers) (spaced : Spaced ts) where
  played_on_lem : (c : Chart) → large_constant c ≡ false
      → counter_played_on counts is first (readings_at first ts) c ≡ without_time (played_on counts is ts c)
  unfolding counts_judged readings_at
  played_on_lem c small =
      rw (length-map, small, chart_claim c small (λ j. get_or counts j 0) first below is ts spaced) (simp time_unless)

  -- for every file, refused ones too
  pub same_counts : (bs : List ℕ) → ((c : Chart) → chart_in bs ≡ returned c → large_constant c ≡ false)
      → counter_answer bs counts is first (readings_at first ts) ≡ without_time (play_answer bs counts is ts)
  unfolding counter_answer without_time
  same_counts bs small = go (judged_in bs) refl ∙ ap without_time (sym (play_is bs counts is ts))
    where
      go : (y : Answer Chart) → judged_in bs ≡ y
          → then y (counter_played_on counts is first (readings_at first ts)) ≡ without_time (then y (played_on counts is ts))
      go (returned c) e = played_on_lem c (small c (judged_reads bs e))
      go (refused n p) e = refl

-- ---- from any counts that 12 allows in each

-- what the counter board answers on the file of an accepted chart
counter_judged : (bs : List ℕ) {c : Chart} → chart_in bs ≡ returned c → judged c ≡ returned c → (counts is : List ℕ) (first : ℕ) (rs : List ℕ)
    → CountsAllowed c counts
    → counter_answer bs counts is first rs
    ≡ unless (eqb (length is) (length rs)) 13 nowhere
    (unless (not (large_constant c)) 18 nowhere (counter_answer_of c first (λ j. get_or counts j 0) is rs))
unfolding counter_answer judged_in
counter_judged bs {c} reads j counts is first rs a = rw (reads, j) (counts_pass c counts _ a)

-- what holds of whole lists holds after each n of their steps
with_fronts : {bs : List ℕ} {c : Chart} {bs' : List ℕ} {c' : Chart}
    → ((v w : List ℕ) (first : ℕ) (is ts : List ℕ) → CountsAllowed c v → CountsAllowed c' w → first < counter_numbers → SpacedAfterFirst ts
    → counter_answer bs' w is first (readings_at first ts) ≡ without_time (play_answer bs v is ts))
    → CounterAsPlayer SpacedAfterFirst bs c bs' c'
with_fronts answers = record {
  answers = answers;
  steps = λ v w first is ts a b below s n.
      rw (readings_front first ts n) (answers v w first (take n is) (take n ts) a b below (spaced_front ts s n));
}

-- two files of accepted charts
module _ {W : ℕ} (bs bs' : List ℕ) (c c' : Chart) (reads : chart_in bs ≡ returned c) (reads' : chart_in bs' ≡ returned c') (j : judged c ≡ returned c)
    (j' : judged c' ≡ returned c') (valid' : Valid W c') where
  -- that the player answers alike on
  pub alike_claim : large_constant c' ≡ false → SameAnswers player_time c c' → CounterAsPlayer SpacedAfterFirst bs c bs' c'
  unfolding play_answer readings_at
  alike_claim small same = with_fronts (λ v w first is ts a b below s.
      counter_judged bs' reads' j' w is first (readings_at first ts) b
      ∙ rw (length-map, small, accepted_claim c' valid' j' small (λ k. get_or v k 0) (λ k. get_or w k 0) first below is ts s)
      (sym (ap without_time (rw (reads) (played_steps c v j a is ts)) ∙ time_unless (eqb (length is) (length ts)) 13 nowhere _
      ∙ ap (λ x. unless (eqb (length is) (length ts)) 13 nowhere (without_time x)) (same (λ k. get_or v k 0) (λ k. get_or v k 0) (steps_of is ts)))))

  -- that have the same answers, at any readings: where some constant is over 65,535, both give 18
  pub same_on_counter : large_constant c ≡ large_constant c' → SameAnswers every_time c c' → SameOnCounter bs c bs' c'
  same_on_counter sizes same = record {
    answers = λ v w first first' is rs a b.
        counter_judged bs reads j v is first rs a
        ∙ ap (unless (eqb (length is) (length rs)) 13 nowhere) (go (λ k. get_or v k 0) (λ k. get_or w k 0) first first' is rs (large_constant c) refl)
        ∙ sym (counter_judged bs' reads' j' w is first' rs b);
  }
    where
      go : (v w : Counts) (first first' : ℕ) (is rs : List ℕ) (b : Bool) → large_constant c ≡ b
          → unless (not (large_constant c)) 18 nowhere (counter_answer_of c first v is rs)
          ≡ unless (not (large_constant c')) 18 nowhere (counter_answer_of c' first' w is rs)
      go v w first first' is rs true e = rw (← sizes, e) refl
      go v w first first' is rs false e = rw (← sizes, e)
          (added_up c e v first is rs
          ∙ ap without_time (same v w (steps_of is (times_of first 0 rs)))
          ∙ sym (added_up c' (sym sizes ∙ e) w first is rs)
          ∙ same_from_any c' valid' j' (sym sizes ∙ e) w w first first' is rs)

-- one file, also where 9 or 10 refuse its chart: then both give that refusal
pub file_claim : (bs : List ℕ) → Bytes bs → (c : Chart) → chart_in bs ≡ returned c → large_constant c ≡ false
    → CounterAsPlayer SpacedAfterFirst bs c bs c
unfolding counter_answer judged_in play_answer without_time
file_claim bs bytes c reads small =
    let valid = reads_valid bs c bytes reads in
    ⊎_elim (λ j. alike_claim bs bs c c reads reads j j valid small (any_counts c valid j).1)
    (λ h. with_fronts (λ v w first is ts a b below s. rw (reads, h.2, played_refused c v is ts h.2) refl)) (judged_either c)

-- document 02's provisos are more
pub with_first : {bs : List ℕ} {c : Chart} {bs' : List ℕ} {c' : Chart} → CounterAsPlayer SpacedAfterFirst bs c bs' c'
    → CounterAsPlayer Spaced bs c bs' c'
with_first x = record {
  answers = λ v w first is ts a b below s. x.answers v w first is ts a b below (spaced_after_first ts s);
  steps = λ v w first is ts a b below s. x.steps v w first is ts a b below (spaced_after_first ts s);
}
