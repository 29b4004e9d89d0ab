-- The fewest timers of the families of a list: a plan has so many, and none has fewer. Hard: `placings` lists what the families are given, a plan
-- gives a number to each place; `given` turns the one into the other.
use mathlib.Core.Path.{◌≡◌, refl, sym, ap, ◌∙◌}
use mathlib.Core.Logic.{◌⊎◌, inl, inr, ◌↔◌}
use mathlib.Core.Bool.{true, false, not}
use mathlib.Core.Option.{some, none-ne-some, some-injective}
use mathlib.Core.List.{List, [], ◌∷◌}
use Prim.Native.Nat.{ℕ, zero, suc, ◌≤◌, ◌<◌}
use native.Mathlib.Nat.{suc_inj}
use native.Mathlib.Omega.{arith}
use lib.ListN.{length, get_elem?}
use Rattle.lists.specs.Lists.{memb}
use Rattle.lists.specs.Elements.{Element}
use Rattle.lists.proofs.Bools.{not_both, not-true, is_no, and_left, and_right, and_both, lt_or_le}
use Rattle.lists.proofs.Membership.{any_in, any_out, any_memb_in, any_memb_out, nth_map, nth_unmap}
use Rattle.lists.proofs.Elements.{gather_in, gather_out}
use Rattle.lists.proofs.Lowest.{lowest_passes, lowest_most}
use Rattle.model.specs.Family.{Family, meets}
use Rattle.model.specs.FirstFit.{Placed, held}
use Rattle.model.specs.SmallestPlan.{placings, meeting_differ, planned, fewest}
use Rattle.model.proofs.FirstFit.{held_in, held_out}
use Rattle.sharing_plans.specs.FamilyPlans.{FamilyPlan}

-- meeting goes both ways
pub meets_sym : (g h : Family) → meets g h ≡ true → meets h g ≡ true
unfolding meets
meets_sym g h m =
    let x = any_memb_out (λ q. memb q h.locations) g.locations m in
    any_memb_in (λ q. memb q g.locations) x.0 h.locations x.2 x.1

-- f with the number n
abbrev pub with : Family → ℕ → Placed
with f n = record { family = f; number = n }

-- the families with their numbers
abbrev pub given : (ℕ → ℕ) → List Family → List Placed
given f [] = []
given f (g ∷ fs) = with g (f 0) ∷ given (λ i. f (suc i)) fs

pub given_nth : (f : ℕ → ℕ) (fs : List Family) (i : ℕ) {g : Family} → get_elem? fs i ≡ some g → get_elem? (given f fs) i ≡ some (with g (f i))
given_nth f [] i e = absurd (none-ne-some _ e)
given_nth f (x ∷ fs) zero e = ap (λ (g : Family). some (with g (f 0))) (some-injective _ _ e)
given_nth f (x ∷ fs) (suc i) e = given_nth (λ i. f (suc i)) fs i e

pub nth_given : (f : ℕ → ℕ) (fs : List Family) (i : ℕ) {p : Placed} → get_elem? (given f fs) i ≡ some p
    → (get_elem? fs i ≡ some p.family) × (p.number ≡ f i)
nth_given f [] i e = absurd (none-ne-some _ e)
nth_given f (x ∷ fs) zero e =
    let s = some-injective _ _ e in
    (ap (λ (p : Placed). some p.family) s, ap (λ (p : Placed). p.number) (sym s))
nth_given f (x ∷ fs) (suc i) e = nth_given (λ i. f (suc i)) fs i e

-- ---- the placings are what is given by numbers below k

module _ (k : ℕ) where
  placings_in : (f : ℕ → ℕ) (fs : List Family) → ((i : ℕ) → i < length fs → f i < k) → Element (placings k fs) (given f fs)
  unfolding placings
  placings_in f [] b = record { place = 0; is_nth = refl }
  placings_in f (g ∷ fs) b =
      let e = placings_in (λ i. f (suc i)) fs (λ i l. b (suc i) (omega arith)) in
      let n = nth_map (λ ps. with g (f 0) ∷ ps) (placings k fs) e.place e.is_nth in
      gather_in _ k (f 0) (b 0 (omega arith)) (record { place = e.place; is_nth = n })

  -- ps is given by numbers below k
  record Given (fs : List Family) (ps : List Placed) : Type 0 where
    number : ℕ → ℕ
    below : (i : ℕ) → i < length fs → number i < k
    same : given number fs ≡ ps

  -- n, then what f gives
  abbrev first : ℕ → (ℕ → ℕ) → ℕ → ℕ
  first n f zero = n
  first n f (suc i) = f i

  placings_out : (fs : List Family) (i : ℕ) {ps : List Placed} → get_elem? (placings k fs) i ≡ some ps → Given fs ps
  unfolding placings
  placings_out [] zero e = record { number = λ i. i; below = λ i l. absurd (omega arith); same = some-injective _ _ e }
  placings_out [] (suc i) e = absurd (none-ne-some _ e)
  placings_out (g ∷ fs) i {ps} e =
      let x = gather_out _ k i e in
      let y = nth_unmap (λ ps. with g x.number ∷ ps) (placings k fs) x.element.place x.element.is_nth in
      more x.number x.below (placings_out fs x.element.place y.1) y.2
    where
      more : (n : ℕ) → n < k → {qs : List Placed} → Given fs qs → with g n ∷ qs ≡ ps → Given (g ∷ fs) ps
      more n l a s = record { number = first n a.number; below = below; same = ap (λ (qs : List Placed). with g n ∷ qs) a.same ∙ s }
        where
          below : (i : ℕ) → i < suc (length fs) → first n a.number i < k
          below zero h = l
          below (suc i) h = a.below i (omega arith)

-- ---- meeting ones differ as a plan says

-- families that meet, at two places, have different numbers
abbrev Apart : (ℕ → ℕ) → List Family → Type 0
Apart f fs = (i j : ℕ) (g h : Family) → get_elem? fs i ≡ some g → get_elem? fs j ≡ some h → (i ≡ j → ⊥) → meets g h ≡ true → f i ≡ f j → ⊥

differ_out : (f : ℕ → ℕ) (fs : List Family) → meeting_differ (given f fs) ≡ true → Apart f fs
unfolding meeting_differ
differ_out f [] d = λ i j g h e e' n m s. none-ne-some _ e
differ_out f (x ∷ fs) d =
    let rest = given (λ i. f (suc i)) fs in
    go (differ_out (λ i. f (suc i)) fs (and_right (not (memb (f 0) (held x rest))) (meeting_differ rest) d))
  where
    apart : (j : ℕ) (h : Family) → get_elem? fs j ≡ some h → meets x h ≡ true → f 0 ≡ f (suc j) → ⊥
    apart j h e m s =
        let rest = given (λ i. f (suc i)) fs in
        let free : memb (f 0) (held x rest) ≡ false = not-true _ (and_left (not (memb (f 0) (held x rest))) (meeting_differ rest) d) in
        not_both (held_in x rest j (with h (f (suc j))) (given_nth (λ i. f (suc i)) fs j e) m) (rw s at free)

    go : Apart (λ i. f (suc i)) fs → Apart f (x ∷ fs)
    go ih zero zero g h e e' n m s = n refl
    go ih zero (suc j) g h e e' n m s = apart j h e' (ap (λ (y : Family). meets y h) (some-injective _ _ e) ∙ m) s
    go ih (suc i) zero g h e e' n m s = apart i g e (ap (λ (y : Family). meets y g) (some-injective _ _ e') ∙ meets_sym g h m) (sym s)
    go ih (suc i) (suc j) g h e e' n m s = ih i j g h e e' (λ p. n (ap suc p)) m s

differ_in : (f : ℕ → ℕ) (fs : List Family) {k : ℕ} → FamilyPlan fs k f → meeting_differ (given f fs) ≡ true
unfolding meeting_differ
differ_in f [] a = refl
differ_in f (x ∷ fs) {k} a = and_both (ap not (is_no _ held_not)) (differ_in (λ i. f (suc i)) fs rest)
  where
    held_not : memb (f 0) (held x (given (λ i. f (suc i)) fs)) ≡ true → ⊥
    held_not m =
        let b = held_out x (f 0) (given (λ i. f (suc i)) fs) m in
        let y = nth_given (λ i. f (suc i)) fs b.place b.is_nth in
        a.different 0 (suc b.place) x b.holder.family refl y.0 (λ e. absurd (omega arith)) b.met (sym b.number ∙ y.1)

    rest : FamilyPlan fs k (λ i. f (suc i))
    rest = record {
      below = λ i l. a.below (suc i) (omega arith);
      different = λ i j g h e e' n. a.different (suc i) (suc j) g h e e' (λ p. n (suc_inj p));
    }

-- ---- there is a plan exactly where one of the placings is one

pub planned_iff : (k : ℕ) (fs : List Family) → (planned k fs ≡ true) ↔ ((f : ℕ → ℕ) × FamilyPlan fs k f)
unfolding planned
planned_iff k fs = (
  λ h.
      let x = any_out meeting_differ (placings k fs) h in
      let a = placings_out k fs x.0 x.2 in
      (a.number, record { below = a.below; different = differ_out a.number fs (ap meeting_differ a.same ∙ x.3) }),
  λ x.
      let e = placings_in k x.0 fs x.1.below in
      any_in meeting_differ (placings k fs) e.place e.is_nth (differ_in x.0 fs x.1),
)

pub fewest_plan : (fs : List Family) → (f : ℕ → ℕ) × FamilyPlan fs (fewest fs) f
unfolding fewest
fewest_plan fs = go (lt_or_le (fewest fs) (length fs))
  where
    go : (fewest fs < length fs) ⊎ (length fs ≤ fewest fs) → (f : ℕ → ℕ) × FamilyPlan fs (fewest fs) f
    go (inl h) = (planned_iff (fewest fs) fs).0 (lowest_passes (λ k. planned k fs) (length fs) h)
    go (inr h) = (λ i. i, record { below = λ i l. omega arith; different = λ i j g h e e' n m s. n s })

pub fewest_least : {fs : List Family} {k : ℕ} {f : ℕ → ℕ} → FamilyPlan fs k f → fewest fs ≤ k
unfolding fewest
fewest_least {fs} {k} {f} a = lowest_most (λ k. planned k fs) (length fs) k ((planned_iff k fs).1 (f, a))
