-- A family takes a number: what completes the plan afterwards, with that number, completed it before, and the other way round; and what the search
-- then knows of conflicts. Hard: only the cases in which one of two meeting families is the one that took the number.
use mathlib.Core.Path.{◌≡◌, refl, sym, ap, ◌∙◌}
use mathlib.Core.Logic.{◌⊎◌, inl, inr, ⊎_elim}
use mathlib.Core.Bool.{Bool, cond, true, false, ◌||◌, ◌&&◌, not, or-false}
use mathlib.Core.List.{List}
use Prim.Native.Nat.{ℕ, ◌+◌, ◌-◌, ◌*◌, ◌%◌, ◌≤◌, ◌<◌, ◌^◌, min, max}
use native.Mathlib.Decide.{ℕ_discrete}
use native.Mathlib.Nat.{eq-or-lt_of_le}
use native.Mathlib.Omega.{arith}
use borrow.Author.Tests.{eq-eqb, ne_eqb}
use lib.Bits.{and_le_l, and_le_r}
use lib.Dec.{eqb}
use lib.Pow.{pow_mono}
use lib.ListN.{length, length-set, get_or}
use lib.Seq.{get_or-set_same, get_or-set_other}
use Rattle.lists.proofs.Bools.{not_both, is_yes, eqb_self, and_left, and_right, and_both, or_cases, or_left, or_right, same_number}
use Rattle.timer_set.specs.Members.{member, joined, common, minus, added, removed}
use Rattle.timer_set.proofs.Members.{member_empty, member_removed, member_joined, member_common, member_minus, member_added, member_full, member_ext}
use Rattle.timer_set.proofs.Members.{common_lt, minus_lt}
use Rattle.timer_set.proofs.Digits.{below_power}
use Rattle.timer_set.proofs.Machine.{machine_removed}
use Rattle.timer_set.proofs.LowestMember.{removed_gone}
use Rattle.model.specs.Floor.{most_searched}
use Rattle.smallest_plan.specs.RowPlans.{meet_in}
use Rattle.smallest_plan.specs.Search.{Completes, SearchReady, Answers, held_after}
use Rattle.smallest_plan.proofs.Exchange.{exchanged, exchanged_to, first_fresh}

-- ---- a set without one of its members

pub removed_in : (w v i : ℕ) → member (removed w v) i ≡ true → member w i ≡ true
removed_in w v i m = and_left (member w i) (not (eqb i v)) (sym (member_removed w v i) ∙ m)

-- it is a smaller number
pub removed_less : (w v : ℕ) → w < 2 ^ 64 → v < 64 → member w v ≡ true → removed w v < w
removed_less w v h l m = ⊎_elim (λ e. absurd (not_both (ap (λ (x : ℕ). member x v) e ∙ m) (removed_gone w v))) (λ q. q) (eq-or-lt_of_le less)
  where
    less : removed w v ≤ w
    less = rw (← machine_removed 64 w v h l) (and_le_l w ((2 ^ 64 - 1) - (1 * 2 ^ v) % 2 ^ 64))

-- a set of families is a word
pub word_of_families : (w : ℕ) → ((i : ℕ) → member w i ≡ true → i < most_searched) → w < 2 ^ 64
unfolding common
word_of_families w h = omega (arith, same, and_le_r w (2 ^ 20 - 1))
  where
    wide : w < 2 ^ (w + 20)
    wide = grind (arith, below_power w, pow_mono)

    kept : (i : ℕ) (b : Bool) → b ≡ member w i → b ≡ b && member (2 ^ 20 - 1) i
    kept i true e = sym (member_full 20 i (h i (sym e)))
    kept i false e = refl

    same : w ≡ common w (2 ^ 20 - 1)
    same = member_ext (w + 20) w _ wide (common_lt (w + 20) w _ wide) (λ i l. kept i _ refl ∙ sym (member_common w _ i))

-- ---- a part of the unplaced families

pub completes_part : {rows held : List ℕ} {k w u : ℕ} {f : ℕ → ℕ} → ((i : ℕ) → member u i ≡ true → member w i ≡ true) → Completes rows held k w f
    → Completes rows held k u f
completes_part s C = record {
  below = λ i n. C.below i (s i n);
  free = λ i n. C.free i (s i n);
  apart = λ i j n o. C.apart i j (s i n) (s j o);
}

ready_part : {rows held : List ℕ} {k w u used : ℕ} → ((i : ℕ) → member u i ≡ true → member w i ≡ true) → SearchReady rows held k w used
    → SearchReady rows held k u used
ready_part s R = record {
  families = R.families;
  few_families = R.few_families;
  meetings = R.meetings;
  within = λ i n. R.within i (s i n);
  few_numbers = R.few_numbers;
  used_few = R.used_few;
  fresh = R.fresh;
}

-- ---- f with c at v

pub put : (f : ℕ → ℕ) (v c i : ℕ) → ℕ
put f v c i = cond (eqb i v) c (f i)

-- what it gives a member of w, by cases
abbrev Put : (f : ℕ → ℕ) (w v c i : ℕ) → Type 0
Put f w v c i = ((i ≡ v) × (put f v c i ≡ c)) ⊎ ((member (removed w v) i ≡ true) × (put f v c i ≡ f i))

put_cases : (f : ℕ → ℕ) (w v c i : ℕ) → member w i ≡ true → Put f w v c i
unfolding put
put_cases f w v c i m = go (ℕ_discrete i v)
  where
    go : Dec (i ≡ v) → Put f w v c i
    go (yes p) = inl (p, rw (eq-eqb i v p))
    go (no n) = inr (member_removed w v i ∙ and_both m (ap not (ne_eqb i v n)), rw (ne_eqb i v n))

-- ---- v takes c

pub held_after_length : (rows held : List ℕ) (v c : ℕ) → length (held_after rows held v c) ≡ length held
held_after_length rows held v c = length-set held c _

module _ (rows held : List ℕ) (v c : ℕ) (l : c < length held) where
  -- against whom a number is held now
  held_now : (d i : ℕ) → member (get_or (held_after rows held v c) d 0) i ≡ (member (get_or held d 0) i || (eqb d c && meet_in rows v i))
  unfolding meet_in
  held_now d i = go (ℕ_discrete d c)
    where
      go : Dec (d ≡ c) → member (get_or (held_after rows held v c) d 0) i ≡ (member (get_or held d 0) i || (eqb d c && member (get_or rows v 0) i))
      go (yes p) = rw (p, eq-eqb c c refl, get_or-set_same held c _ 0 l) (member_joined _ _ i)
      go (no n) = rw (ne_eqb d c n, get_or-set_other held c d _ 0 n) (sym (or-false _))

  -- what completes u before, and gives c to none of u that v meets, completes it after
  completes_after : {k u : ℕ} {f : ℕ → ℕ} → Completes rows held k u f → ((i : ℕ) → member u i ≡ true → meet_in rows v i ≡ true → f i ≡ c → ⊥)
      → Completes rows (held_after rows held v c) k u f
  completes_after {u = u} {f = f} C s = record {
    below = C.below;
    free = λ i n h. free i n (or_cases (member (get_or held (f i) 0) i) (sym (held_now (f i) i) ∙ h));
    apart = C.apart;
  }
    where
      free : (i : ℕ) → member u i ≡ true → (member (get_or held (f i) 0) i ≡ true) ⊎ ((eqb (f i) c && meet_in rows v i) ≡ true) → ⊥
      free i n (inl h) = C.free i n h
      free i n (inr h) = s i n (and_right (eqb (f i) c) (meet_in rows v i) h) (same_number (and_left (eqb (f i) c) (meet_in rows v i) h))

  -- what completes before, with c at v, completes after
  narrow : {k w : ℕ} {f : ℕ → ℕ} → member w v ≡ true → Completes rows held k w f → f v ≡ c
      → Completes rows (held_after rows held v c) k (removed w v) f
  narrow {w = w} m C e =
      completes_after (completes_part (removed_in w v) C) (λ i n t q. C.apart v i m (removed_in w v i n) t (e ∙ sym q))

  -- c at v takes nothing from the families of u: what completes these before completes them after
  unchanged : {k u : ℕ} {f : ℕ → ℕ} → minus (common (get_or rows v 0) u) (get_or held c 0) ≡ 0 → Completes rows held k u f
      → Completes rows (held_after rows held v c) k u f
  unfolding meet_in
  unchanged {u = u} e C = completes_after C (λ i n t q. C.free i n (rw q (is_yes _ (lost i n t))))
    where
      lost : (i : ℕ) → member u i ≡ true → member (get_or rows v 0) i ≡ true → member (get_or held c 0) i ≡ false → ⊥
      lost i n t q = not_both (member_minus _ _ i ∙ and_both (member_common _ u i ∙ and_both t n) (ap not q)) (rw e (member_empty i))

module _ {rows held : List ℕ} {k w used : ℕ} (R : SearchReady rows held k w used) (v : ℕ) (m : member w v ≡ true) (c : ℕ) (l : c < length held) where
  -- what completes after, with c put at v, completes before
  widen : {f : ℕ → ℕ} → Completes rows (held_after rows held v c) k (removed w v) f → c < k → member (get_or held c 0) v ≡ false
      → Completes rows held k w (put f v c)
  widen {f} C s h = record {
    below = λ i n. below i (put_cases f w v c i n);
    free = λ i n. free i (put_cases f w v c i n);
    apart = λ i j n o. apart i j (put_cases f w v c i n) (put_cases f w v c j o);
  }
    where
      below : (i : ℕ) → Put f w v c i → put f v c i < k
      below i (inl a) = rw a.1 s
      below i (inr a) = rw a.1 (C.below i a.0)

      free : (i : ℕ) → Put f w v c i → member (get_or held (put f v c i) 0) i ≡ true → ⊥
      free i (inl a) t = not_both (rw (a.1, a.0) at t) h
      free i (inr a) t = C.free i a.0 (held_now rows held v c l (f i) i ∙ or_left (eqb (f i) c && meet_in rows v i) (rw a.1 at t))

      clash : (i : ℕ) → member (removed w v) i ≡ true → meet_in rows v i ≡ true → c ≡ f i → ⊥
      clash i n t e =
          C.free i n (held_now rows held v c l (f i) i ∙ or_right (member (get_or held (f i) 0) i) (and_both (eq-eqb (f i) c (sym e)) t))

      apart : (i j : ℕ) → Put f w v c i → Put f w v c j → meet_in rows i j ≡ true → put f v c i ≡ put f v c j → ⊥
      apart i j (inl a) (inl b) t e = not_both (rw (a.0, b.0) at t) (R.meetings.other v (R.within v m))
      apart i j (inl a) (inr b) t e = clash j b.0 (rw a.0 at t) (sym a.1 ∙ e ∙ b.1)
      apart i j (inr a) (inl b) t e =
          let back = R.meetings.both i v (R.within i (removed_in w v i a.0)) (R.within v m) (rw b.0 at t) in
          clash i a.0 back (sym b.1 ∙ sym e ∙ a.1)
      apart i j (inr a) (inr b) t e = C.apart i j a.0 b.0 t (sym a.1 ∙ e ∙ b.1)

  pub ready_next : c < k → c ≤ used → SearchReady rows (held_after rows held v c) k (removed w v) (max used (c + 1))
  ready_next s u = record {
    families = R.families;
    few_families = R.few_families;
    meetings = R.meetings;
    within = λ i n. R.within i (removed_in w v i n);
    few_numbers = R.few_numbers;
    used_few = omega (arith, R.used_few);
    fresh = λ d q. get_or-set_other held c d _ 0 (λ e. omega arith) ∙ R.fresh d (omega arith);
  }

  -- a conflict from which c at v takes nothing is one whatever v gets
  pub answers_part : {part : ℕ} → c < k → member (get_or held c 0) v ≡ false → minus (common (get_or rows v 0) part) (get_or held c 0) ≡ 0
      → Answers rows (held_after rows held v c) k (removed w v) part → Answers rows held k w part
  answers_part s h e A = record {
    none = λ n. record { by = _; completes = widen (A.none n).completes s h };
    some = λ n f C. A.some n f (unchanged rows held v c l e C);
    within = λ i n. removed_in w v i (A.within i n);
  }

-- ---- the numbers tried at v

-- found are v and other families of w, and what completes them gives v no number below c
pub record Tried (rows held : List ℕ) (k w v found c : ℕ) : Type 0 where
  pub has : member found v ≡ true
  pub within : (i : ℕ) → member found i ≡ true → member w i ≡ true
  pub least : (f : ℕ → ℕ) → Completes rows held k found f → c ≤ f v

pub tried_none : (rows held : List ℕ) (k w v : ℕ) → member w v ≡ true → Tried rows held k w v (added 0 v) 0
tried_none rows held k w v m = record {
  has = member_added 0 v v ∙ or_right (member 0 v) (eqb_self v);
  within = λ i n. rw (alone i n) m;
  least = λ f C. omega arith;
}
  where
    alone : (i : ℕ) → member (added 0 v) i ≡ true → i ≡ v
    alone i n = same_number (sym (member_added 0 v i ∙ ap (λ (b : Bool). b || eqb i v) (member_empty i)) ∙ n)

-- a part that loses something is not empty
part_some : (row part against : ℕ) → (minus (common row part) against ≡ 0 → ⊥) → part ≡ 0 → ⊥
unfolding common
part_some row part against n e = n (omega (arith, minus_lt 0 (common row part) against (omega (arith, and_le_r row part))))

module _ {rows held : List ℕ} {k w v found c : ℕ} (T : Tried rows held k w v found c) where
  pub tried_held : member (get_or held c 0) v ≡ true → Tried rows held k w v found (c + 1)
  tried_held h = record {
    has = T.has;
    within = T.within;
    least = λ f C. let l = T.least f C in let d : f v ≡ c → ⊥ = λ e. C.free v T.has (rw e h) in omega arith;
  }

  pub tried_more : {part : ℕ} → c < length held → (minus (common (get_or rows v 0) part) (get_or held c 0) ≡ 0 → ⊥)
      → Answers rows (held_after rows held v c) k (removed w v) part → Tried rows held k w v (joined found part) (c + 1)
  tried_more {part} l n A = record {
    has = left v T.has;
    within = within;
    least = λ f C.
        let b = T.least f (completes_part left C) in
        let d : f v ≡ c → ⊥ = λ e. A.some (part_some _ part _ n) f (completes_part right (narrow rows held v c l (left v T.has) C e)) in
        omega arith;
  }
    where
      left : (i : ℕ) → member found i ≡ true → member (joined found part) i ≡ true
      left i m = member_joined found part i ∙ or_left _ m

      within : (i : ℕ) → member (joined found part) i ≡ true → member w i ≡ true
      within i m =
          ⊎_elim (T.within i) (λ q. removed_in w v i (A.within i q)) (or_cases (member found i) (sym (member_joined found part i) ∙ m))

      -- v is not in the part
      right : (i : ℕ) → member part i ≡ true → member (removed (joined found part) v) i ≡ true
      right i m =
          let other = and_right (member w i) (not (eqb i v)) (sym (member_removed w v i) ∙ A.within i m) in
          member_removed (joined found part) v i ∙ and_both (member_joined found part i ∙ or_right (member found i) m) other

  pub tried_all : {used : ℕ} → SearchReady rows held k w used → min k (used + 1) ≤ c → Answers rows held k w found
  tried_all {used} R q = record {
    none = λ e. absurd (not_both (rw e at T.has) (member_empty v));
    some = λ e f C.
        let l : c ≤ f v = T.least f C in
        let b : f v < k = C.below v T.has in
        let n = T.least (λ i. exchanged used (f v) (f i)) (first_fresh v (ready_part T.within R) C T.has (omega arith)) in
        omega (arith, exchanged_to used (f v));
    within = T.within;
  }

-- nothing is unplaced
pub all_placed : {rows held : List ℕ} {k w : ℕ} → w ≡ 0 → Answers rows held k w w
all_placed {w = w} e = record {
  none = λ n. record {
    by = λ i. 0;
    completes = record { below = λ i m. absurd (none i m); free = λ i m. absurd (none i m); apart = λ i j m. absurd (none i m) };
  };
  some = λ n. absurd (n e);
  within = λ i m. m;
}
  where
    none : (i : ℕ) → member w i ≡ true → ⊥
    none i m = not_both (rw e at m) (member_empty i)
