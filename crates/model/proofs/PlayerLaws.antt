-- The player on two charts whose step lists have the same answers gives one answer, from any counts that 12 allows, and 12 allows just these.
use mathlib.Core.Path.{◌≡◌, refl, sym, ap, ◌∙◌}
use mathlib.Core.Bool.{not}
use mathlib.Core.List.{List}
use Prim.Native.Nat.{ℕ}
use native.Mathlib.Omega.{arith}
use lib.Dec.{leb, eqb}
use lib.ListN.{length, get_or}
use borrow.Author.Tests.{leb-true, le-leb, eqb-true, eq-eqb, not-false}
use Rattle.lists.specs.Lists.{lowest}
use Rattle.lists.proofs.Lowest.{lowest_before, lowest_is}
use Rattle.model.specs.Answer.{Answer, returned, unless, nowhere}
use Rattle.model.specs.Chart.{Chart}
use Rattle.model.specs.Run.{player_time, largest_time}
use Rattle.model.specs.Judge.{judged}
use Rattle.model.specs.Player.{answer_of, too_large, counts_judged, steps_of, played}
use Rattle.model.specs.Equivalence.{SameAnswers}
use Rattle.model.proofs.Answers.{unless_result}
use Rattle.model.proofs.PlayerNumbers.{played_judged}
pub use Rattle.model.specs.PlayerTerms.{CountsAllowed}

module _ (c : Chart) (counts : List ℕ) where
  -- counts that 12 allows are not refused
  pub counts_pass : {A : Type 0} (x : Answer A) → CountsAllowed c counts → counts_judged c counts x ≡ x
  unfolding counts_judged too_large
  counts_pass x a =
      let none : lowest (too_large counts) c.timers ≡ c.timers =
      lowest_is (too_large counts) c.timers c.timers (omega arith) (λ l. absurd (omega arith))
      (λ j l. ap not (le-leb (get_or counts j 0) largest_time (a.small j l))) in
      rw (eq-eqb (length counts) c.timers a.one_each, none, le-leb c.timers c.timers (omega arith)) refl

  -- and no others are taken
  pub counts_allowed : {A : Type 0} (x : Answer A) (y : A) → counts_judged c counts x ≡ returned y → CountsAllowed c counts
  unfolding counts_judged too_large
  counts_allowed x y e =
      let first : ℕ = lowest (too_large counts) c.timers in
      let one = unless_result (eqb (length counts) c.timers) 12 nowhere (unless (leb c.timers first) 12 first x) e in
      let two = unless_result (leb c.timers first) 12 first x one.1 in
      record {
        one_each = eqb-true (length counts) c.timers one.0;
        small = λ j l. leb-true (get_or counts j 0) largest_time
            (not-false _ (lowest_before (too_large counts) c.timers j (omega (arith, leb-true c.timers first two.0))));
      }

  -- where nothing else is refused, the player answers what the steps come to, its limit on times judged
  pub played_steps : judged c ≡ returned c → CountsAllowed c counts → (is ts : List ℕ)
      → played c counts is ts ≡ unless (eqb (length is) (length ts)) 13 nowhere (answer_of player_time c (λ j. get_or counts j 0) (steps_of is ts))
  played_steps e a is ts = played_judged c counts is ts e ∙ counts_pass _ a

  -- and for lists of one length just that
  pub played_answer : judged c ≡ returned c → CountsAllowed c counts → (is ts : List ℕ) → length is ≡ length ts
      → played c counts is ts ≡ answer_of player_time c (λ j. get_or counts j 0) (steps_of is ts)
  played_answer e a is ts l = played_steps e a is ts ∙ rw (eq-eqb (length is) (length ts) l) refl

module _ (c c' : Chart) (same : SameAnswers player_time c c') (judged-c : judged c ≡ returned c) (judged-c' : judged c' ≡ returned c') where
  pub alike_played : (v w : List ℕ) → CountsAllowed c v → CountsAllowed c' w → (is ts : List ℕ) → played c v is ts ≡ played c' w is ts
  alike_played v w a a' is ts =
      played_steps c v judged-c a is ts
      ∙ ap (unless (eqb (length is) (length ts)) 13 nowhere) (same (λ j. get_or v j 0) (λ j. get_or w j 0) (steps_of is ts))
      ∙ sym (played_steps c' w judged-c' a' is ts)
