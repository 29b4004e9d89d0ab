-- Families marked at their locations one after another, each with its place in the list.
use mathlib.Core.Path.{◌≡◌, refl, sym, ap, ap₂, ◌∙◌}
use mathlib.Core.Logic.{◌⊎◌, inl, inr}
use mathlib.Core.Bool.{Bool, true, false, ◌&&◌, ◌||◌, or-false, and-true}
use mathlib.Core.List.{List, [], ◌∷◌, ◌++◌}
use Prim.Native.Nat.{ℕ, zero, suc, ◌+◌, ◌*◌, ◌≤◌, ◌<◌}
use native.Mathlib.Omega.{arith}
use lib.Dec.{eqb, eqb-suc-suc, eqb-suc-zero, eqb-zero-suc}
use lib.ListN.{length, get_or}
use borrow.Author.Tests.{ne_eqb}
use Rattle.lists.specs.Lists.{memb}
use Rattle.lists.proofs.Bools.{yes_or_no, is_no, not_both, and_right}
use Rattle.timer_set.specs.Members.{member, added}
use Rattle.timer_set.proofs.Members.{member_added, member_empty}
use Rattle.chart_lists.specs.Limits.{most_locations}
use Rattle.model.specs.Floor.{most_searched}
use Rattle.model.specs.Family.{Family}
use Rattle.allocation.specs.FamiliesAt.{contains, FamiliesAt}
use Rattle.allocation.specs.Rows.{in_family, holding, marked, held_words, word_place}
use Rattle.allocation.proofs.Filling.{changed_no, changed_here}

-- ---- one family is marked with its place

module _ (sets : List ℕ) (j place : ℕ) (before : List ℕ) (s i : ℕ) where
  pub marked_past : most_searched ≤ place → i < most_searched → member (get_or before s 0) i ≡ marked sets j place before s i
  unfolding marked
  marked_past h k = rw (ne_eqb i place (λ e. omega arith)) (sym (or-false _))

  pub marked_held : (words : List ℕ)
      → ((q v : ℕ) → q < length sets → v < held_words → get_or words (most_locations * v + q) 0 ≡ holding sets j 0 place before q v)
      → s < length sets → member (get_or words s 0) i ≡ marked sets j place before s i
  unfolding marked holding
  marked_held words has h = go (yes_or_no (in_family sets j s))
    where
      first : (l : List ℕ) → get_or l (word_place s 0) 0 ≡ get_or l s 0
      first l = ap (λ (x : ℕ). get_or l x 0) (omega arith)

      new : {v : ℕ} → holding sets j 0 place before s 0 ≡ v → get_or words s 0 ≡ v
      new e = sym (first words) ∙ has s 0 h (omega arith) ∙ e

      go : (in_family sets j s ≡ true) ⊎ (in_family sets j s ≡ false) → member (get_or words s 0) i ≡ marked sets j place before s i
      go (inl e) =
          ap (λ (w : ℕ). member w i)
          (new (changed_here word_place sets j 0 (λ w. added w place) before s e ∙ ap (λ (w : ℕ). added w place) (first before)))
          ∙ member_added _ place i ∙ ap (λ (b : Bool). member (get_or before s 0) i || b) (sym (ap (λ (b : Bool). eqb i place && b) e ∙ and-true _))
      go (inr e) =
          ap (λ (w : ℕ). member w i) (new (changed_no word_place sets j 0 (λ w. added w place) before s e 0 ∙ first before))
          ∙ sym (or-false _) ∙ ap (λ (b : Bool). member (get_or before s 0) i || b) (sym (is_no _ (λ t. not_both (and_right (eqb i place) _ t) e)))

-- ---- the families so far are marked

pub at_none : {at : List ℕ} → ((s : ℕ) → get_or at s 0 ≡ 0) → FamiliesAt [] at
unfolding contains
at_none e = record { holds = λ s i h k. ap (λ (w : ℕ). member w i) (e s) ∙ member_empty i }

contains_last : (f : Family) (fs : List Family) (i s : ℕ)
    → contains (fs ++ (f ∷ [])) i s ≡ (contains fs i s || (eqb i (length fs) && memb s f.locations))
unfolding contains
contains_last f [] zero s = refl
contains_last f [] (suc i) s = rw (eqb-suc-zero i) refl
contains_last f (g ∷ gs) zero s = rw (eqb-zero-suc (length gs)) (sym (or-false _))
contains_last f (g ∷ gs) (suc i) s = rw (eqb-suc-suc i (length gs)) (contains_last f gs i s)

module _ {fs : List Family} {at : List ℕ} (so : FamiliesAt fs at) (sets : List ℕ) (long : length at ≡ length sets) where
  pub at_more : (f : Family) (j : ℕ) {place : ℕ} → ((s : ℕ) → in_family sets j s ≡ memb s f.locations) → place ≡ length fs → (after : List ℕ)
      → length after ≡ length sets
      → ((s i : ℕ) → s < length sets → i < most_searched → member (get_or after s 0) i ≡ marked sets j place at s i)
      → FamiliesAt (fs ++ (f ∷ [])) after
  unfolding marked
  at_more f j its is after wide marks = record {
    holds = λ s i h k. marks s i (omega (arith, h, wide)) k
        ∙ ap₂ ◌||◌ (so.holds s i (omega (arith, h, wide, long)) k) (ap₂ (λ (n : ℕ) (b : Bool). eqb i n && b) is (its s))
        ∙ sym (contains_last f fs i s);
  }
