-- The counts of a step: each is grown, one a turn, then those of the started timers become 0, one a turn. Hard: a timer that was started is no longer
-- among those that are left, so what is known is that starting the rest gives the same as starting all.
use mathlib.Core.Path.{◌≡◌, refl, sym, ap, ◌∙◌}
use mathlib.Core.Logic.{◌⊎◌, inl, inr}
use mathlib.Core.Bool.{Bool, true, false, ◌&&◌, not, and-true}
use mathlib.Core.List.{List}
use Prim.Native.Nat.{ℕ, ◌+◌, ◌≤◌, ◌<◌}
use native.Mathlib.Omega.{arith}
use lib.Dec.{eqb}
use lib.ListN.{length, get_or, set, length-set}
use lib.Seq.{get_or-set_same, get_or-set_other}
use borrow.Author.Count.{below_more}
use borrow.Author.Tests.{eq-eqb}
use Rattle.lists.proofs.Bools.{yes_or_no, not_both, same_number}
use Rattle.lists.specs.Lists.{memb}
use Rattle.timer_set.specs.Members.{member, removed, set_of}
use Rattle.timer_set.proofs.Members.{member_empty, member_removed, member_set_of}
use Rattle.timer_set.proofs.LowestMember.{removed_gone}
use Rattle.model.specs.Run.{Counts, grown, restarted}
use Rattle.steps.specs.Counts.{CountsAgree, count_after, MovedOn}

-- ---- one count

module _ (w d j x : ℕ) where
  pub count_started : member w j ≡ true → count_after w d j x ≡ 0
  unfolding count_after
  count_started m = rw (m, count_after)

  pub count_grown : member w j ≡ false → count_after w d j x ≡ x + d
  unfolding count_after
  count_grown m = rw (m, count_after)

  count_same : (u : ℕ) → member w j ≡ member u j → count_after w d j x ≡ count_after u d j x
  unfolding count_after
  count_same u e = ap (λ (b : Bool). elim b [ true ↦ 0 | false ↦ x + d ]) e

pub none_started : (d j x : ℕ) → count_after 0 d j x ≡ x + d
none_started d j x = count_grown 0 d j x (member_empty j)

-- ---- counts that are changed, one a turn

-- of the 64 counts the first i have been changed by f, the others are as before
pub record ChangedTo (f : ℕ → ℕ) (i : ℕ) (before after : List ℕ) : Type 0 where
  pub number : length after ≡ 64
  pub done : (j : ℕ) → j < i → get_or after j 0 ≡ f (get_or before j 0)
  pub kept : (j : ℕ) → i ≤ j → get_or after j 0 ≡ get_or before j 0

module _ (f : ℕ → ℕ) (before : List ℕ) where
  pub changed_none : length before ≡ 64 → ChangedTo f 0 before before
  changed_none e = record { number = e; done = λ j h. absurd (omega arith); kept = λ j h. refl }

  pub changed_more : (i : ℕ) (after : List ℕ) {x : ℕ} → x ≡ f (get_or after i 0) → i < 64 → ChangedTo f i before after
      → ChangedTo f (i + 1) before (set after i x)
  changed_more i after {x} e h g = record {
    number = rw length-set g.number;
    done = below_more (λ (j : ℕ). get_or (set after i x) j 0 ≡ f (get_or before j 0)) i
        (λ j l. get_or-set_other after i j _ 0 (λ p. omega arith) ∙ g.done j l)
        (get_or-set_same after i _ 0 (omega (arith, g.number)) ∙ e ∙ ap f (g.kept i (omega arith)));
    kept = λ j l. get_or-set_other after i j _ 0 (λ p. omega arith) ∙ g.kept j (omega arith);
  }

module _ (d : ℕ) (before : List ℕ) where
  pub grown_all : (i : ℕ) (after : List ℕ) → 64 ≤ i → ChangedTo (λ x. x + d) i before after → MovedOn 0 d before after
  grown_all i after h g = record { number = g.number; count = λ j l. g.done j (omega arith) ∙ sym (none_started d j _) }

  -- the tests are tried on these
  pub grown_agrees : (after : List ℕ) (v : Counts) → CountsAgree before v → MovedOn 0 d before after → CountsAgree after (grown d v)
  unfolding grown
  grown_agrees after v a m = record { same = λ j h. m.count j h ∙ none_started d j _ ∙ ap (λ (x : ℕ). x + d) (a.same j h) }

-- ---- started timers

-- starting the timers that are left comes to starting all of them
pub record StartedTo (left starts : ℕ) (before after : List ℕ) : Type 0 where
  pub number : length after ≡ 64
  pub same : (j : ℕ) → j < 64 → count_after left 0 j (get_or after j 0) ≡ count_after starts 0 j (get_or before j 0)

module _ (starts : ℕ) (before : List ℕ) where
  pub started_none : length before ≡ 64 → StartedTo starts starts before before
  started_none e = record { number = e; same = λ j h. refl }

  pub started_more : (left i : ℕ) (after : List ℕ) → i < 64 → member left i ≡ true → StartedTo left starts before after
      → StartedTo (removed left i) starts before (set after i 0)
  started_more left i after h m s = record { number = rw length-set s.number; same = λ j l. at j (yes_or_no (eqb j i)) ∙ s.same j l }
    where
      at : (j : ℕ) → (eqb j i ≡ true) ⊎ (eqb j i ≡ false)
          → count_after (removed left i) 0 j (get_or (set after i 0) j 0) ≡ count_after left 0 j (get_or after j 0)
      at j (inl e) =
          let p : j ≡ i = same_number e in
          let stored = get_or-set_same after i 0 0 (omega (arith, s.number)) in
          let gone = count_grown (removed left i) 0 i (get_or (set after i 0) i 0) (removed_gone left i) in
          rw p (gone ∙ ap (λ (x : ℕ). x + 0) stored ∙ sym (count_started left 0 i _ m))
      at j (inr e) =
          let kept : member (removed left i) j ≡ member left j =
          member_removed left i j ∙ ap (λ (b : Bool). member left j && not b) e ∙ and-true (member left j) in
          let other = get_or-set_other after i j 0 0 (λ p. not_both (eq-eqb j i p) e) in
          count_same (removed left i) 0 j _ left kept ∙ ap (count_after left 0 j) other

  pub started_all : (left : ℕ) (after : List ℕ) → left ≡ 0 → StartedTo left starts before after → MovedOn starts 0 before after
  started_all left after e s = record {
    number = s.number;
    count = λ j h.
        let x = get_or after j 0 in
        let p = ap (λ (w : ℕ). count_after w 0 j x) e ∙ none_started 0 j x in
        let q = s.same j h in
        omega arith;
  }

  -- the run goes on with these
  pub started_agrees : (after : List ℕ) (v : Counts) (l : List ℕ) → starts ≡ set_of l → CountsAgree before v → MovedOn starts 0 before after
      → CountsAgree after (restarted l v)
  unfolding restarted
  started_agrees after v l e a m = record { same = λ j h. m.count j h ∙ at j h (memb j l) refl }
    where
      in_set : (j : ℕ) → member starts j ≡ memb j l
      in_set j = ap (λ (x : ℕ). member x j) e ∙ member_set_of l j

      at : (j : ℕ) → j < 64 → (b : Bool) → memb j l ≡ b → count_after starts 0 j (get_or before j 0) ≡ restarted l v j
      at j h true p = rw (p, restarted) (count_started starts 0 j _ (in_set j ∙ p))
      at j h false p =
          let same = a.same j h in
          let kept = count_grown starts 0 j (get_or before j 0) (in_set j ∙ p) in
          rw (p, restarted) (omega arith)
