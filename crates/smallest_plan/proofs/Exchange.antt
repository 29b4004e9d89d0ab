-- Two numbers exchanged: a completion stays one if both are held against no family. Hard: only that different numbers stay different, since a second
-- exchange undoes the first.
use mathlib.Core.Path.{◌≡◌, refl, sym, ap, ◌∙◌}
use mathlib.Core.Logic.{◌⊎◌, inl, inr}
use mathlib.Core.Bool.{cond, true}
use mathlib.Core.List.{List}
use Prim.Native.Nat.{ℕ, ◌≤◌, ◌<◌}
use native.Mathlib.Decide.{ℕ_discrete}
use native.Mathlib.Omega.{arith}
use borrow.Author.Tests.{eq-eqb, ne_eqb}
use lib.Dec.{eqb}
use lib.ListN.{get_or}
use Rattle.lists.proofs.Bools.{not_both}
use Rattle.timer_set.specs.Members.{member}
use Rattle.timer_set.proofs.Members.{member_empty}
use Rattle.smallest_plan.specs.Search.{Completes, SearchReady}

pub exchanged : (a b x : ℕ) → ℕ
exchanged a b x = cond (eqb x a) b (cond (eqb x b) a x)

-- what a number becomes, by cases
abbrev Cases : (a b x y : ℕ) → Type 0
Cases a b x y = ((x ≡ a) × (y ≡ b)) ⊎ (((x ≡ b) × (y ≡ a)) ⊎ ((x ≡ a → ⊥) × (x ≡ b → ⊥) × (y ≡ x)))

cases : (a b x : ℕ) → Cases a b x (exchanged a b x)
unfolding exchanged
cases a b x = go (ℕ_discrete x a) (ℕ_discrete x b)
  where
    go : Dec (x ≡ a) → Dec (x ≡ b) → Cases a b x (exchanged a b x)
    go (yes p) q = inl (p, rw (eq-eqb x a p))
    go (no n) (yes q) = inr (inl (q, rw (ne_eqb x a n, eq-eqb x b q)))
    go (no n) (no m) = inr (inr (n, m, rw (ne_eqb x a n, ne_eqb x b m)))

exchanged_from : (a b : ℕ) → exchanged a b a ≡ b
unfolding exchanged
exchanged_from a b = rw (eq-eqb a a refl)

pub exchanged_to : (a b : ℕ) → exchanged a b b ≡ a
exchanged_to a b = go (cases a b b)
  where
    go : Cases a b b (exchanged a b b) → exchanged a b b ≡ a
    go (inl e) = e.1 ∙ e.0
    go (inr (inl e)) = e.1
    go (inr (inr e)) = absurd (e.1 refl)

exchanged_back : (a b x : ℕ) → exchanged a b (exchanged a b x) ≡ x
exchanged_back a b x = go (cases a b x)
  where
    go : Cases a b x (exchanged a b x) → exchanged a b (exchanged a b x) ≡ x
    go (inl e) = ap (exchanged a b) e.1 ∙ exchanged_to a b ∙ sym e.0
    go (inr (inl e)) = ap (exchanged a b) e.1 ∙ exchanged_from a b ∙ sym e.0
    go (inr (inr e)) = ap (exchanged a b) e.2 ∙ e.2

pub exchanged_same : (a b x y : ℕ) → exchanged a b x ≡ exchanged a b y → x ≡ y
exchanged_same a b x y e = sym (exchanged_back a b x) ∙ ap (exchanged a b) e ∙ exchanged_back a b y

-- what is at most b, and not a, becomes less than b
pub exchanged_less : (a b x : ℕ) → a ≤ b → x ≤ b → (x ≡ a → ⊥) → exchanged a b x < b
exchanged_less a b x l m n = go (cases a b x)
  where
    go : Cases a b x (exchanged a b x) → exchanged a b x < b
    go (inl e) = absurd (n e.0)
    go (inr (inl e)) = omega (arith, e.0, e.1)
    go (inr (inr e)) = omega (arith, e.1, e.2)

-- what holds of a, b and x holds of what x becomes
exchanged_keeps : (P : ℕ → Type 0) (a b x : ℕ) → P a → P b → P x → P (exchanged a b x)
exchanged_keeps P a b x pa pb px = go (cases a b x)
  where
    go : Cases a b x (exchanged a b x) → P (exchanged a b x)
    go (inl e) = rw e.1 pb
    go (inr (inl e)) = rw e.1 pa
    go (inr (inr e)) = rw e.2 px

-- if v has a number that is held against none, it may as well have the first such
pub first_fresh : {rows held : List ℕ} {k w used : ℕ} {f : ℕ → ℕ} (v : ℕ) → SearchReady rows held k w used → Completes rows held k w f
    → member w v ≡ true → used ≤ f v → Completes rows held k w (λ i. exchanged used (f v) (f i))
first_fresh {held = held} {k = k} {used = used} {f = f} v R C m l = record {
  below = λ i n. exchanged_keeps (λ x. x < k) used (f v) (f i) (omega (arith, C.below v m)) (C.below v m) (C.below i n);
  free = λ i n.
      exchanged_keeps (λ x. member (get_or held x 0) i ≡ true → ⊥) used (f v) (f i) (none i used (omega arith)) (none i (f v) l) (C.free i n);
  apart = λ i j n o t e. C.apart i j n o t (exchanged_same used (f v) (f i) (f j) e);
}
  where
    none : (i c : ℕ) → used ≤ c → member (get_or held c 0) i ≡ true → ⊥
    none i c u h = not_both (rw (R.fresh c u) at h) (member_empty i)
