-- The timers of a location whose families begin there, in turn.
use mathlib.Core.Path.{◌≡◌, refl, sym, ap, ◌∙◌, subst, subst₂}
use mathlib.Core.Logic.{◌⊎◌, inl, inr}
use mathlib.Core.Bool.{Bool, true, false, not, ◌&&◌, and-true, and-false}
use mathlib.Core.List.{List}
use Prim.Native.Nat.{ℕ, zero, suc, ◌+◌, ◌-◌, ◌*◌, ◌/◌, ◌%◌, ◌≤◌, ◌<◌, max}
use native.Mathlib.Decide.{ℕ_discrete}
use native.Mathlib.Omega.{arith}
use lib.Dec.{eqb}
use lib.ListN.{length, get_or}
use borrow.Author.Tests.{ne_eqb}
use Rattle.lists.proofs.Bools.{not_both, eqb_self, lt_or_le}
use Rattle.lists.proofs.Lowest.{lowest_before}
use Rattle.lists.specs.Lists.{lowest}
use Rattle.timer_set.specs.Members.{member, lowest_member}
use Rattle.timer_set.specs.Iteration.{Taken}
use Rattle.timer_set.proofs.Members.{member_removed}
use Rattle.model.specs.Floor.{most_searched}
use Rattle.model.specs.Family.{Pairs, is_pair, family_of, WellFormed}
use Rattle.allocation.specs.Rows.{taken, given, marked, Unnumbered, cell_place}
use Rattle.allocation.specs.Turns.{is_root, NumberedTo, Roots}
use Rattle.allocation.specs.Cells.{most_cells}
use Rattle.chart_lists.specs.Limits.{most_locations}
use Rattle.allocation.proofs.Filling.{changed_other}
use Rattle.allocation.proofs.Placing.{root_pair, numbered_yes, numbered_no}

-- the timers of the set at or above a place are left, and no others
pub record Rest (roots left place : ℕ) : Type 0 where
  pub few : place ≤ 64
  pub same : (i : ℕ) → place ≤ i → member left i ≡ member roots i
  pub gone : (i : ℕ) → i < place → member left i ≡ false

pub rest_all : (roots : ℕ) → Rest roots roots 0
rest_all roots = record { few = omega arith; same = λ i h. refl; gone = λ i h. absurd (omega arith) }

-- a turn takes the lowest of them
pub record Turn (roots left place j after : ℕ) : Type 0 where
  pub rest : Rest roots after (j + 1)
  pub above : place ≤ j
  pub below : j < 64
  pub is_member : member roots j ≡ true
  pub between : (i : ℕ) → place ≤ i → i < j → member roots i ≡ false

pub turn_taken : {roots left place j after : ℕ} → Rest roots left place → Taken left j after → Turn roots left place j after
unfolding lowest_member
turn_taken {roots} {left} {place} {j} {after} r t = record {
  rest = record { few = omega (arith, t.below); same = same; gone = gone };
  above = above;
  below = t.below;
  is_member = sym (r.same j above) ∙ t.is_member;
  between = λ i h l. sym (r.same i h) ∙ before i l;
}
  where
    before : (i : ℕ) → i < j → member left i ≡ false
    before i l = lowest_before (member left) 64 i (omega (arith, t.lowest))

    above : place ≤ j
    above = go (lt_or_le j place)
      where
        go : (j < place) ⊎ (place ≤ j) → place ≤ j
        go (inl l) = absurd (not_both t.is_member (r.gone j l))
        go (inr l) = l

    now : (i : ℕ) → member after i ≡ (member left i && not (eqb i j))
    now i = ap (λ (w : ℕ). member w i) t.left_is ∙ member_removed left j i

    same : (i : ℕ) → j + 1 ≤ i → member after i ≡ member roots i
    same i h = now i ∙ ap (λ (b : Bool). member left i && not b) (ne_eqb i j (λ e. omega arith)) ∙ and-true _ ∙ r.same i (omega (arith, above))

    gone : (i : ℕ) → i < j + 1 → member after i ≡ false
    gone i h = now i ∙ go (ℕ_discrete i j)
      where
        go : Dec (i ≡ j) → (member left i && not (eqb i j)) ≡ false
        go (yes e) = ap (λ (b : Bool). member left i && not b) (ap (λ (n : ℕ). eqb n j) e ∙ eqb_self j) ∙ and-false _
        go (no n) = ap (λ (b : Bool). b && not (eqb i j)) (before i (omega arith))

-- another timer's cells stay as they were
pub unnumbered_kept : (sets : List ℕ) (j number : ℕ) (cells after : List ℕ)
    → ((s i : ℕ) → s < length sets → i < 64 → get_or after (64 * s + i) 0 ≡ given sets j number cells s i)
    → (i : ℕ) → i < 64 → (j ≡ i → ⊥) → Unnumbered sets i cells → Unnumbered sets i after
unfolding Unnumbered given
unnumbered_kept sets j number cells after gave i h n unnumbered s k e =
    gave s i k h ∙ changed_other cell_place sets j j (λ _. number) cells s i n ∙ unnumbered s k e

-- 64 q + j tells q and j
pub root_at : {p : Pairs} → WellFormed p → (q j : ℕ) → j < 64 → is_root p (64 * q + j) ≡ true → (is_pair p q j ≡ true) × ((family_of p q j).first ≡ q)
root_at {p} formed q j h e =
    let d : (64 * q + j) / 64 ≡ q = omega arith in
    let r : (64 * q + j) % 64 ≡ j = omega arith in
    subst₂ (λ (a b : ℕ). (is_pair p a b ≡ true) × ((family_of p a b).first ≡ a)) d r (root_pair formed (64 * q + j) e)

module _ {p : Pairs} {q roots : ℕ} {sets : List ℕ} (g : Roots p q roots sets) (j : ℕ) (h : j < 64) (cells at : List ℕ) (used count : ℕ)
    (so : NumberedTo p (64 * q + j) cells at used count) where
  pub turn_no : member roots j ≡ false → NumberedTo p (64 * q + (j + 1)) cells at used count
  turn_no e = subst (λ (x : ℕ). NumberedTo p x cells at used count) (omega arith)
      (numbered_no g.formed (64 * q + j) cells at used count so (sym (g.timers j h) ∙ e))

  pub turn_yes : member roots j ≡ true → length sets ≤ most_locations → (number : ℕ) → number ≡ lowest (λ k. not (taken sets cells j k)) most_cells
      → (after : List ℕ) → length after ≡ 64 * length sets
      → ((s i : ℕ) → s < length sets → i < 64 → get_or after (64 * s + i) 0 ≡ given sets j number cells s i)
      → length at ≡ length sets → (words : List ℕ) → length words ≡ length sets
      → ((s i : ℕ) → s < length sets → i < most_searched → member (get_or words s 0) i ≡ marked sets j count at s i)
      → NumberedTo p (64 * q + (j + 1)) after words (max used (number + 1)) (count + 1)
  turn_yes e few number is after long gave at_long words words_long marks =
      let b : is_root p (64 * q + j) ≡ true = sym (g.timers j h) ∙ e in
      subst (λ (x : ℕ). NumberedTo p x after words (max used (number + 1)) (count + 1)) (omega arith)
      (numbered_yes g.formed q j h (root_at g.formed q j h b).0 sets g.locations_are (λ s. g.families j s e) cells at used count so
      (omega (arith, g.here, g.locations_are)) number is after (omega (arith, long, g.locations_are)) gave b at_long words words_long marks)

-- timers whose families do not begin here are passed over
turns_past : {p : Pairs} {q roots : ℕ} {sets : List ℕ} → Roots p q roots sets → (j n : ℕ) → j + n ≤ 64
    → ((i : ℕ) → j ≤ i → i < j + n → member roots i ≡ false) → (cells at : List ℕ) (used count : ℕ) → NumberedTo p (64 * q + j) cells at used count
    → NumberedTo p (64 * q + (j + n)) cells at used count
turns_past {p} {q} g j zero h none cells at used count so = subst (λ (x : ℕ). NumberedTo p x cells at used count) (omega arith) so
turns_past {p} {q} g j (suc n) h none cells at used count so = subst (λ (x : ℕ). NumberedTo p x cells at used count) (omega arith)
    (turn_no g (j + n) (omega arith) cells at used count (turns_past g j n (omega arith) (λ i a b. none i a (omega arith)) cells at used count so)
    (none (j + n) (omega arith) (omega arith)))

pub turns_to : {p : Pairs} {q roots : ℕ} {sets : List ℕ} → Roots p q roots sets → (j k : ℕ) → j ≤ k → k ≤ 64
    → ((i : ℕ) → j ≤ i → i < k → member roots i ≡ false) → (cells at : List ℕ) (used count : ℕ) → NumberedTo p (64 * q + j) cells at used count
    → NumberedTo p (64 * q + k) cells at used count
turns_to {p} {q} g j k le h none cells at used count so =
    let e : j + (k - j) ≡ k = omega arith in
    subst (λ (x : ℕ). NumberedTo p (64 * q + x) cells at used count) e
    (turns_past g j (k - j) (omega arith) (λ i a b. none i a (omega arith)) cells at used count so)
