-- Which refusals the player gives on a file, 1 to 10 exactly as the judgement of the file, and what 9 and 10 say of its chart. Hard: that a number up
-- to 10 comes from the judgement, since all later ones are at least 12.
use mathlib.Core.Path.{◌≡◌, refl, sym, ap₂, ◌∙◌}
use mathlib.Core.Logic.Iff
use mathlib.Core.Logic.{◌⊎◌, inl, inr, ◌↔◌}
use mathlib.Core.Bool.{true, ◌&&◌}
use mathlib.Core.Option.{some}
use mathlib.Core.List.{List, [], ◌∷◌}
use Prim.Native.Nat.{ℕ, ◌≤◌}
use native.Mathlib.Omega.{arith}
use lib.Dec.{leb, eqb}
use lib.ListN.{length, get_or, get_elem?}
use borrow.Author.Tests.{leb-false, le-leb}
use Rattle.lists.specs.Lists.{memb, any_of, lowest}
use Rattle.file_format.specs.Parse.{Bytes}
use Rattle.lists.proofs.Bools.{not_both}
use Rattle.lists.proofs.Membership.{any_memb_in, memb_least, memb_tail}
use Rattle.model.specs.Answer.{Answer, returned, refused, then, nowhere}
use Rattle.model.specs.Chart.{Chart}
use Rattle.model.specs.Player.{Arrival, too_large, counts_judged, steps_of, played_on}
use Rattle.model.specs.Refusals.{Refuses}
use Rattle.model.proofs.Answers.{refused_same, refuses_unless, refuses_then, refuses_wider}
use Rattle.model.proofs.PlayerNumbers.{after_numbers}
use Rattle.model.specs.Places.{LowestUnreached, LowestUnstarted, HasUnreached}
use Rattle.judgement.specs.Judging.{judged_in}
use Rattle.judgement.specs.Charts.{HoldsChart}
use Rattle.judgement.proofs.Corollaries.{judged_numbers, judged_9, judged_10, judged_result, refusals_of_judged_in}
use Rattle.judgement.proofs.Corollaries.{somewhere, unreached_in_lem, never_unreached}
use Rattle.file_format.proofs.File.{reads_valid}
use Rattle.player.specs.Playing.{play_answer}
use Rattle.player.specs.Refusals.{RefusalOfPlay}
use Rattle.player.specs.Refusals.RefusalOfPlay.{of_judgement, of_counts, of_lengths, of_step}
use Rattle.player.proofs.Files.{play_is}
use Rattle.player.proofs.StepPlaces.{answer_place, length_steps_of}

module _ (bs counts is ts : List ℕ) where
  after_judgement : (c : Chart) (n p : ℕ) → played_on counts is ts c ≡ refused n p → 12 ≤ n
  unfolding any_of
  after_judgement c n p e = memb_least 12 n _ refl ((after_numbers counts is ts c).only n p e)

  -- 1 to 10 come exactly where the judgement of the file gives them
  pub play_judged : (n p : ℕ) → n ≤ 10 → (play_answer bs counts is ts ≡ refused n p) ↔ (judged_in bs ≡ refused n p)
  play_judged n p h = ((λ e. out (judged_in bs) refl (sym (play_is bs counts is ts) ∙ e)), (λ e. play_is bs counts is ts ∙ rw e refl))
    where
      out : (x : Answer Chart) → judged_in bs ≡ x → then (judged_in bs) (played_on counts is ts) ≡ refused n p → judged_in bs ≡ refused n p
      out (returned c) q e = absurd (omega (arith, after_judgement c n p (rw q at e)))
      out (refused m i) q e =
          let z : ◌≡◌ {A = Answer Arrival} (refused m i) (refused n p) = rw q at e in
          let y = refused_same z in
          q ∙ ap₂ refused y.0 y.1

  module _ (bytes : Bytes bs) where
    -- 9, below version 3, at the lowest location that no path reaches, 10 at the lowest transition with an unstarted test
    pub play_9 : (q : ℕ) → (play_answer bs counts is ts ≡ refused 9 q) ↔ HoldsChart bs (λ c. LowestUnreached c q)
    play_9 q = let a = play_judged 9 q (omega arith) in let b = judged_9 bs bytes q in ((λ e. b.0 (a.0 e)), (λ h. a.1 (b.1 h)))

    pub play_10 : (i : ℕ) → (play_answer bs counts is ts ≡ refused 10 i) ↔ HoldsChart bs (λ c. LowestUnstarted c i)
    play_10 i = let a = play_judged 10 i (omega arith) in let b = judged_10 bs bytes i in ((λ e. b.0 (a.0 e)), (λ h. a.1 (b.1 h)))

    -- 9 wherever the version is below 3 and some location is not reached, and in no file of version 3
    pub play_9_when : ((q : ℕ) × (play_answer bs counts is ts ≡ refused 9 q)) ↔ HoldsChart bs HasUnreached
    play_9_when = Iff.trans (somewhere play_9) (unreached_in_lem bs bytes)

    pub play_never_9 : get_elem? bs 0 ≡ some 3 → (q : ℕ) → play_answer bs counts is ts ≡ refused 9 q → ⊥
    play_never_9 v q e = never_unreached bs bytes v (play_9_when.0 (q, e))

  -- ---- every refusal, with its place

  inputs_refuse : (c : Chart) → c.timers ≤ 64 → Refuses (RefusalOfPlay (length is)) (played_on counts is ts c)
  unfolding counts_judged
  inputs_refuse c few =
      refuses_unless (eqb (length counts) c.timers) 12 nowhere _ (λ e. of_counts refl (inl refl)) (λ e.
      refuses_unless (leb c.timers first) 12 first _ (λ q. of_counts refl (inr (omega (arith, leb-false c.timers first q)))) (λ e.
      refuses_unless (eqb (length is) (length ts)) 13 nowhere _ (λ e. of_lengths refl refl) (λ e.
      refuses_wider (λ n p h. of_step h.0 (omega (arith, h.1.1, length_steps_of is ts)))
      (answer_place c (λ j. get_or counts j 0) (steps_of is ts)))))
    where
      first : ℕ
      first = lowest (too_large counts) c.timers

  pub refusals_of_play : Bytes bs → (n p : ℕ) → play_answer bs counts is ts ≡ refused n p → RefusalOfPlay (length is) n p
  refusals_of_play bytes n p e =
      (refuses_then (judged_in bs) (played_on counts is ts) (record { only = λ m q f. of_judgement (refusals_of_judged_in bs bytes m q f) })
      (λ c q. inputs_refuse c (reads_valid bs c bytes ((judged_result bs bytes c).0 q).reads).few_timers)).only n p
      (sym (play_is bs counts is ts) ∙ e)

-- ---- the numbers alone

pub play_numbers : (bs counts is ts : List ℕ) → Bytes bs → (n p : ℕ) → play_answer bs counts is ts ≡ refused n p
    → ((1 ≤ n) × (n ≤ 10)) ⊎ (memb n (12 ∷ 13 ∷ 14 ∷ 15 ∷ 22 ∷ 23 ∷ 24 ∷ []) ≡ true)
unfolding memb
play_numbers bs counts is ts bytes n p e = go (refusals_of_play bs counts is ts bytes n p e)
  where
    go : RefusalOfPlay (length is) n p → ((1 ≤ n) × (n ≤ 10)) ⊎ (memb n (12 ∷ 13 ∷ 14 ∷ 15 ∷ 22 ∷ 23 ∷ 24 ∷ []) ≡ true)
    go (of_judgement r) = inl (judged_numbers r)
    go (of_counts h q) = inr (rw h refl)
    go (of_lengths h q) = inr (rw h refl)
    go (of_step m l) = inr (memb_tail n 12 (13 ∷ 14 ∷ 15 ∷ 22 ∷ 23 ∷ 24 ∷ []) (memb_tail n 13 (14 ∷ 15 ∷ 22 ∷ 23 ∷ 24 ∷ []) m))

-- 17 is the writer's, 18 the counter board's
pub never_17_or_18 : (bs counts is ts : List ℕ) → Bytes bs → (n p : ℕ) → 17 ≤ n → n ≤ 18 → play_answer bs counts is ts ≡ refused n p → ⊥
unfolding any_of
never_17_or_18 bs counts is ts bytes n p lo hi e = go (play_numbers bs counts is ts bytes n p e)
  where
    go : ((1 ≤ n) × (n ≤ 10)) ⊎ (memb n (12 ∷ 13 ∷ 14 ∷ 15 ∷ 22 ∷ 23 ∷ 24 ∷ []) ≡ true) → ⊥
    go (inl h) = omega (arith, h.1)
    go (inr h) = not_both (any_memb_in (λ k. leb 17 k && leb k 18) n _ h (rw (le-leb 17 n lo, le-leb n 18 hi) refl)) refl
