-- A location that is put on the worklist, and one that is taken from it. Room is no matter: of the list's places, one is free for each location that
-- is idle.
use mathlib.Core.Path.{◌≡◌, refl, sym, ap, ◌∙◌}
use mathlib.Core.Logic.{inl, inr}
use mathlib.Core.List.{List}
use Prim.Native.Nat.{ℕ, ◌+◌, ◌≤◌, ◌<◌}
use native.Mathlib.Decide.{ℕ_discrete}
use native.Mathlib.Omega.{arith}
use lib.ListN.{length, get_or, replicate, set, length-set, length-replicate, get_or-replicate}
use lib.Seq.{get_or-set_same, get_or-set_other, set-get_or}
use Rattle.lists.specs.Lists.{sum_of}
use Rattle.lists.proofs.Sums.{sum_set, sum_ones}
use Rattle.timer_set.specs.Members.{joined}
use Rattle.timer_set.proofs.Members.{joined_more}
use Rattle.worklist.specs.Worklist.{Among, Worklist, JoinedInto}

-- nothing waits
pub worklist_none : (m n : ℕ) (waiting : List ℕ) → m ≤ n → n ≤ length waiting → Worklist m (replicate n 1) waiting 0
worklist_none m n waiting h room = record {
  idles = omega (arith, h, length-replicate {A = ℕ} n 1);
  room = omega (arith, room, sum_ones n);
  below = λ k l. absurd (omega (arith, l));
  listed = λ q l z. absurd (omega (arith, z, get_or-replicate {A = ℕ} n q 1 0 (omega (arith, l, h))));
}

module _ {m : ℕ} {idle waiting : List ℕ} {depth : ℕ} (x : Worklist m idle waiting depth) where
  module _ (q : ℕ) (below : q < m) where
    inside : q < length idle
    inside = omega (arith, below, x.idles)

    -- it waits already
    pub push_same : get_or idle q 0 ≡ 0 → idle ≡ set idle q 0
    push_same e = sym (ap (set idle q) (sym e) ∙ set-get_or idle q 0)

    module _ (free : get_or idle q 0 ≡ 0 → ⊥) where
      pub push_room : depth < length waiting
      push_room = omega (arith, free, x.room, sum_set idle q 0 inside)

      pub push_more : Worklist m (set idle q 0) (set waiting depth q) (depth + 1)
      push_more = record {
        idles = omega (arith, x.idles, length-set idle q 0);
        room = omega (arith, free, x.room, sum_set idle q 0 inside, length-set waiting depth q);
        below = λ k l. lower k l (ℕ_discrete k depth);
        listed = λ p l z. stands p l z (ℕ_discrete p q);
      }
        where
          lower : (k : ℕ) → k < depth + 1 → Dec (k ≡ depth) → get_or (set waiting depth q) k 0 < m
          lower k l (yes e) = rw (e, get_or-set_same waiting depth q 0 push_room) below
          lower k l (no ne) = rw (get_or-set_other waiting depth k q 0 ne) (x.below k (omega (arith, l, ne)))

          stands : (p : ℕ) → p < m → get_or (set idle q 0) p 0 ≡ 0 → Dec (p ≡ q) → Among (set waiting depth q) (depth + 1) p
          stands p l z (yes e) = record { place = depth; below = omega arith; is_at = get_or-set_same waiting depth q 0 push_room ∙ sym e }
          stands p l z (no ne) =
              let old = x.listed p l (sym (get_or-set_other idle q p 0 0 ne) ∙ z) in
              record {
                place = old.place;
                below = omega (arith, old.below);
                is_at = get_or-set_other waiting depth old.place q 0 (λ e. omega (arith, old.below, e)) ∙ old.is_at;
              }

  module _ (k : ℕ) (e : depth ≡ k + 1) where
    abbrev last : ℕ
    last = get_or waiting k 0

    -- the last of the list is a location
    pub last_below : last < m
    last_below = x.below k (omega (arith, e))

    -- it is idle again
    pub pop : Worklist m (set idle last 1) waiting k
    pop = record {
      idles = omega (arith, x.idles, length-set idle last 1);
      room = omega (arith, e, x.room, sum_set idle last 1 (omega (arith, x.idles, last_below)));
      below = λ i l. x.below i (omega (arith, l, e));
      listed = λ p l z. stands p l z (ℕ_discrete p last);
    }
      where
        stands : (p : ℕ) → p < m → get_or (set idle last 1) p 0 ≡ 0 → Dec (p ≡ last) → Among waiting k p
        stands p l z (yes e) = absurd (omega (arith, rw e at z, get_or-set_same idle last 1 0 (omega (arith, x.idles, last_below))))
        stands p l z (no ne) =
            let old = x.listed p l (sym (get_or-set_other idle last p 1 0 ne) ∙ z) in
            let not_last : old.place ≡ k → ⊥ = λ f. ne (sym old.is_at ∙ ap (λ (i : ℕ). get_or waiting i 0) f) in
            record { place = old.place; below = omega (arith, old.below, e, not_last); is_at = old.is_at }

-- ---- timers joined to a location's set

pub joined_into_none : {target timers : ℕ} {sets idle : List ℕ} → joined (get_or sets target 0) timers ≡ get_or sets target 0
    → JoinedInto target timers sets idle sets idle
joined_into_none {target} {sets = sets} e = record { grown = sym (ap (set sets target) e ∙ set-get_or sets target 0); waits = inl (refl, refl) }

module _ (target timers : ℕ) (sets : List ℕ) {w : ℕ} (is : w ≡ joined (get_or sets target 0) timers) where
  pub joined_into_more : {idle after : List ℕ} → after ≡ set idle target 0 → JoinedInto target timers sets idle (set sets target w) after
  joined_into_more e = record { grown = ap (set sets target) is; waits = inr e }

  pub sum_more : target < length sets → (w ≡ get_or sets target 0 → ⊥) → sum_of sets < sum_of (set sets target w)
  sum_more h ne = omega (arith, ne, is, sum_set sets target w h, joined_more (get_or sets target 0) timers)
