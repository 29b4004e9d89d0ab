-- 12 and 13, and what is left when neither comes. The code's tests are the definition's, in its order.
use mathlib.Core.Path.{◌≡◌, refl, sym, ap, ◌∙◌}
use mathlib.Core.Bool.{Bool}
use mathlib.Core.List.{List}
use Prim.Native.Nat.{ℕ, ◌≤◌, ◌<◌}
use native.Mathlib.Omega.{arith}
use lib.Dec.{leb, eqb}
use lib.ListN.{length}
use borrow.Author.Tests.{le-leb, lt-leb, eqb-true, eq-eqb, ne_eqb}
use Rattle.lists.specs.Lists.{lowest}
use Rattle.model.specs.Answer.{Answer, returned, refused, then, unless, nowhere}
use Rattle.model.specs.Chart.{Chart}
use Rattle.model.specs.Player.{too_large, counts_judged}
use Rattle.model.specs.PlayerTerms.{CountsAllowed}
use Rattle.model.proofs.Answers.{unless_result, then_unless}
use Rattle.model.proofs.PlayerLaws.{counts_pass, counts_allowed}
use Rattle.steps.specs.Counts.{Allowed}
use Rattle.player.specs.Playing.{judged_to13}

module _ (c : Chart) (counts : List ℕ) where
  -- ---- the tests of 12

  module _ {A : Type 0} (x : Answer A) where
    -- not one count for each timer
    pub number_refused : (length counts ≡ c.timers → ⊥) → refused 12 nowhere ≡ counts_judged c counts x
    unfolding counts_judged
    number_refused h = rw (ne_eqb (length counts) c.timers h) refl

    module _ (one_each : length counts ≡ c.timers) {first : ℕ} (e : first ≡ lowest (too_large counts) (length counts)) where
      first_is : lowest (too_large counts) c.timers ≡ first
      first_is = ap (lowest (too_large counts)) (sym one_each) ∙ sym e

      -- a count is too large
      pub count_refused : first < length counts → refused 12 first ≡ counts_judged c counts x
      unfolding counts_judged
      count_refused h = rw (eq-eqb (length counts) c.timers one_each, first_is, lt-leb c.timers first (omega arith)) refl

      -- none is
      pub counts_passed : length counts ≤ first → x ≡ counts_judged c counts x
      unfolding counts_judged
      counts_passed h = rw (eq-eqb (length counts) c.timers one_each, first_is, le-leb c.timers first (omega arith)) refl

  -- ---- what follows on it

  -- a refusal of 12 stands before anything else
  pub counts_then : {A B : Type 0} (y : Answer A) (f : A → Answer B) → then (counts_judged c counts y) f ≡ counts_judged c counts (then y f)
  unfolding counts_judged
  counts_then y f =
      then_unless one_each 12 nowhere _ f ∙ ap (λ x. unless one_each 12 nowhere x) (then_unless (leb c.timers first) 12 first y f)
    where
      one_each : Bool
      one_each = eqb (length counts) c.timers

      first : ℕ
      first = lowest (too_large counts) c.timers

  pub after_counts : {y : Answer (Unit {0})} → y ≡ counts_judged c counts (returned tt) → {A : Type 0} (x : Answer A)
      → then y (λ _. x) ≡ counts_judged c counts x
  after_counts e x = rw e (counts_then (returned (tt {0})) (λ _. x))

  module _ (n m : ℕ) where
    -- so does one of 13
    pub after_inputs_lem : {y : Answer (Unit {0})} → y ≡ judged_to13 c counts n m (returned tt) → {A : Type 0} (x : Answer A)
        → then y (λ _. x) ≡ judged_to13 c counts n m x
    unfolding judged_to13
    after_inputs_lem e x =
        rw e (counts_then _ (λ _. x) ∙ ap (counts_judged c counts) (then_unless (eqb n m) 13 nowhere (returned (tt {0})) (λ _. x)))

    -- 12 refuses
    pub counts_first : {k p : ℕ} → refused k p ≡ counts_judged c counts (returned (tt {0}))
        → refused k p ≡ judged_to13 c counts n m (returned (tt {0}))
    unfolding judged_to13
    counts_first e = after_counts e _

    -- 12 passes, and 13 is decided by the lengths
    module _ (e : returned (tt {0}) ≡ counts_judged c counts (returned tt)) where
      onward : (x : Answer (Unit {0})) → counts_judged c counts x ≡ x
      onward x = counts_pass c counts x (counts_allowed c counts (returned (tt {0})) tt (sym e))

      pub lengths_refused : (n ≡ m → ⊥) → refused 13 nowhere ≡ judged_to13 c counts n m (returned (tt {0}))
      unfolding judged_to13
      lengths_refused d = rw (ne_eqb n m d) (sym (onward _))

      pub lengths_passed : n ≡ m → returned (tt {0}) ≡ judged_to13 c counts n m (returned tt)
      unfolding judged_to13
      lengths_passed d = rw (eq-eqb n m d) e

    -- where nothing is refused, 12 allows the counts and the lists have one length
    module _ (e : returned (tt {0}) ≡ judged_to13 c counts n m (returned tt)) where
      counts_are : CountsAllowed c counts
      unfolding judged_to13
      counts_are = counts_allowed c counts (unless (eqb n m) 13 nowhere (returned (tt {0}))) tt (sym e)

      pub allowed : c.timers ≤ 64 → Allowed counts
      allowed few = let a = counts_are in let one = a.one_each in record { few = omega arith; small = λ j l. a.small j (omega arith) }

      pub one_length : n ≡ m
      unfolding judged_to13
      one_length = eqb-true n m (unless_result (eqb n m) 13 nowhere (returned (tt {0})) (sym (counts_pass c counts _ counts_are) ∙ sym e)).0
