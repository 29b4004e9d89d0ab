-- First fit over any list of families: which numbers are held, that each family has the smallest that is not, how many numbers are used, and refusal
-- 20 ("Live, born, family, board number"). Hard: 20: all K numbers are held for a family exactly where the number that it is given is K or more.
use mathlib.Core.Path.{◌≡◌, refl, sym, ap, ◌∙◌, subst}
use mathlib.Core.Logic.{◌⊎◌, inl, inr, ◌↔◌}
use mathlib.Core.Bool.{Bool, true, false, not, ◌||◌, true≢false}
use mathlib.Core.Option.{some, none-ne-some, some-injective}
use mathlib.Core.List.{List, [], ◌∷◌, map}
use Prim.Native.Nat.{ℕ, zero, suc, max, ◌≤◌, ◌<◌}
use native.Mathlib.Omega.{arith}
use lib.ListN.{get_elem?}
use borrow.Author.Tests.{eq-eqb}
use Rattle.lists.specs.Lists.{memb, top}
use Rattle.lists.proofs.Bools.{not_both, not-true, not-false, is_no, or_cases, or_left, or_right, same_number, lt_or_le}
use Rattle.lists.proofs.Membership.{memb_cases, memb_head, memb_tail, memb_nil, nth_memb, memb_nth, nth_map, nth_unmap, top_above, top_below}
use Rattle.lists.proofs.Lowest.{lowest_passes, lowest_before, lowest_is}
use Rattle.model.specs.Family.{Family, meets}
use Rattle.model.specs.FirstFit.{Placed, held, free, place, used_by, all_held, blocked}
pub use Rattle.model.specs.Placing.{HeldBy}

-- ---- the smallest number that is not in a list

pub free_not_held : (l : List ℕ) → memb (free l) l ≡ false
unfolding free
free_not_held l = go (lt_or_le (free l) (top l))
  where
    go : (free l < top l) ⊎ (top l ≤ free l) → memb (free l) l ≡ false
    go (inl h) = not-true _ (lowest_passes (λ k. not (memb k l)) (top l) h)
    go (inr h) = is_no _ (λ m. let t = top_above l (free l) m in omega arith)

pub free_least : (l : List ℕ) (k : ℕ) → k < free l → memb k l ≡ true
unfolding free
free_least l k h = not-false _ (lowest_before (λ k. not (memb k l)) (top l) k h)

-- ---- the numbers held by the families that f meets

module _ (f : Family) where
  pub held_in : (ps : List Placed) (i : ℕ) (g : Placed) → get_elem? ps i ≡ some g → meets f g.family ≡ true → memb g.number (held f ps) ≡ true
  unfolding held
  held_in [] i g e m = absurd (none-ne-some _ e)
  held_in (h ∷ ps) zero g e m =
      let s : h ≡ g = some-injective _ _ e in
      let t : meets f h.family ≡ true = ap (λ (x : Placed). meets f x.family) s ∙ m in
      rw (t, held) (memb_head g.number h.number (held f ps) (ap (λ (x : Placed). x.number) (sym s)))
  held_in (h ∷ ps) (suc i) g e m = go (meets f h.family) refl (held_in ps i g e m)
    where
      go : (b : Bool) → meets f h.family ≡ b → memb g.number (held f ps) ≡ true → memb g.number (held f (h ∷ ps)) ≡ true
      go true t ih = rw (t, held) (memb_tail g.number h.number (held f ps) ih)
      go false t ih = rw (t, held) ih

  -- the same holder, one place further on
  abbrev pub later : {k : ℕ} {h : Placed} {ps : List Placed} → HeldBy f k ps → HeldBy f k (h ∷ ps)
  later b = record { place = suc b.place; holder = b.holder; is_nth = b.is_nth; met = b.met; number = b.number }

  pub held_out : (k : ℕ) (ps : List Placed) → memb k (held f ps) ≡ true → HeldBy f k ps
  unfolding held
  held_out k [] m = absurd (memb_nil k m)
  held_out k (h ∷ ps) m = go (meets f h.family) refl (held_out k ps)
    where
      here : meets f h.family ≡ true → (k ≡ h.number) ⊎ (memb k (held f ps) ≡ true) → (memb k (held f ps) ≡ true → HeldBy f k ps)
          → HeldBy f k (h ∷ ps)
      here t (inl e) ih = record { place = 0; holder = h; is_nth = refl; met = t; number = sym e }
      here t (inr n) ih = later (ih n)

      go : (b : Bool) → meets f h.family ≡ b → (memb k (held f ps) ≡ true → HeldBy f k ps) → HeldBy f k (h ∷ ps)
      go true t ih = here t (memb_cases k h.number (held f ps) (rw (t, held) at m)) ih
      go false t ih = later (ih (rw (t, held) at m))

-- ---- each has the smallest number that is held by no earlier one that it meets

abbrev pub Fitted : List Placed → Type 0
Fitted [] = Unit {0}
Fitted (g ∷ earlier) = (g.number ≡ free (held g.family earlier)) × Fitted earlier

pub place_fitted : (fs : List Family) (ps : List Placed) → Fitted ps → Fitted (place fs ps)
unfolding place
place_fitted [] ps a = a
place_fitted (f ∷ fs) ps a = place_fitted fs (record { family = f; number = free (held f ps) } ∷ ps) (refl, a)

-- ---- how many numbers are used

pub used_above : (ps : List Placed) (i : ℕ) (g : Placed) → get_elem? ps i ≡ some g → g.number < used_by ps
unfolding used_by
used_above ps i g e = top_above _ g.number (nth_memb _ i (nth_map (λ (g : Placed). g.number) ps i e))

pub used_reached : (ps : List Placed) (k : ℕ) → used_by ps ≡ suc k → (i : ℕ) × (g : Placed) × (get_elem? ps i ≡ some g) × (g.number ≡ k)
unfolding used_by
used_reached ps k e =
    let numbers = map (λ (g : Placed). g.number) ps in
    let x = top_below numbers k (omega arith) in
    let n = memb_nth numbers x.0 x.1 in
    let g = nth_unmap (λ (g : Placed). g.number) ps n.0 n.1 in
    let b : x.0 < used_by ps = top_above numbers x.0 x.1 in
    let s : x.0 ≡ k = omega (arith, x.2) in
    (n.0, g.0, g.1, g.2 ∙ s)

-- ---- 20: all K numbers are held for some family, exactly where more than K are used

module _ (K : ℕ) where
  all_held_iff : (l : List ℕ) → (all_held K l ≡ true) ↔ (K ≤ free l)
  unfolding all_held
  all_held_iff l = (there, back)
    where
      there : all_held K l ≡ true → K ≤ free l
      there h = go (lt_or_le (free l) K)
        where
          go : (free l < K) ⊎ (K ≤ free l) → K ≤ free l
          go (inl b) = absurd (not_both
              (not-false _ (lowest_before (λ k. not (memb k l)) K (free l) (subst (λ (x : ℕ). free l < x) (sym (same_number h)) b)))
              (free_not_held l))
          go (inr b) = b

      back : K ≤ free l → all_held K l ≡ true
      back h =
          eq-eqb _ K (lowest_is (λ k. not (memb k l)) K K (omega arith) (λ b. absurd (omega arith)) (λ k b. ap not (free_least l k (omega arith))))

  fitted_blocked : (ps : List Placed) → Fitted ps → (blocked K ps ≡ true) ↔ (K < used_by ps)
  unfolding blocked used_by top
  fitted_blocked [] a = (λ h. absurd (true≢false (sym h)), λ h. absurd (omega arith))
  fitted_blocked (g ∷ ps) a =
      let ih = fitted_blocked ps a.1 in (
        λ h. there (or_cases (all_held K (held g.family ps)) h) ih.0,
        λ h. back (lt_or_le g.number K) ih.1 h,
      )
    where
      there : (all_held K (held g.family ps) ≡ true) ⊎ (blocked K ps ≡ true) → (blocked K ps ≡ true → K < used_by ps)
          → K < max (suc g.number) (used_by ps)
      there (inl h) ih = let b = (all_held_iff (held g.family ps)).0 h in omega (arith, a.0)
      there (inr h) ih = let b : K < used_by ps = ih h in omega arith

      back : (g.number < K) ⊎ (K ≤ g.number) → (K < used_by ps → blocked K ps ≡ true) → K < max (suc g.number) (used_by ps)
          → (all_held K (held g.family ps) || blocked K ps) ≡ true
      back (inl b) ih h = or_right (all_held K (held g.family ps)) (ih (omega arith))
      back (inr b) ih h = or_left (blocked K ps) ((all_held_iff (held g.family ps)).1 (omega (arith, a.0)))

  pub blocked_iff : (fs : List Family) → (blocked K (place fs []) ≡ true) ↔ (K < used_by (place fs []))
  blocked_iff fs = fitted_blocked (place fs []) (place_fitted fs [] tt)
