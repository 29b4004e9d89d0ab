-- The turns of the loop over all links, and the sets that joins along links leave once nothing grows.
use mathlib.Core.Path.{◌≡◌, refl, sym, ap, ◌∙◌, subst}
use mathlib.Core.Bool.{Bool, true, false, true≢false}
use mathlib.Core.List.{List}
use Prim.Native.Nat.{ℕ, ◌+◌, ◌*◌, ◌^◌, ◌≤◌, ◌<◌, max}
use native.Mathlib.Decide.{ℕ_discrete}
use native.Mathlib.Omega.{arith}
use lib.ListN.{length, get_or, set, length-set}
use lib.Seq.{get_or-set_other}
use Rattle.lists.specs.Lists.{sum_of}
use Rattle.lists.proofs.Sums.{sum_small}
use Rattle.timer_set.specs.Members.{joined}
use Rattle.timer_set.proofs.Members.{joined_lt, common_lt}
use Rattle.families.specs.Propagation.{one_on, other_on, timers_on, Ends, EndsAgree, JoinedEnds, Joins, Swept, EmptyFrom, join_along}
use Rattle.families.specs.Propagation.Joins.{none, more}
use Rattle.families.specs.declared.links.Link.{Link as StoredLink}
use Rattle.families.proofs.Growth.{either, join_long, join_all}

pub ends_long : {links : List StoredLink} {m n : ℕ} → m ≡ n → Ends m links → Ends n links
ends_long {links} e x = subst (λ (k : ℕ). Ends k links) e x

-- a set alone, and joins along a link, leave the sets empty that are past it and past both the link's ends
pub empty_alone : (sets : List ℕ) (q v : ℕ) → q < length sets → ((s : ℕ) → get_or sets s 0 ≡ 0) → EmptyFrom (q + 1) (set sets q v)
empty_alone sets q v h zeros = record {
  inside = rw length-set (omega (arith, h));
  empty = λ s b. get_or-set_other sets q s v 0 (λ p. omega (arith, p, b)) ∙ zeros s;
}

empty_both : (one other a b : ℕ) {end r : ℕ} {sets : List ℕ} → EmptyFrom end sets → r ≡ max (max end (one + 1)) (other + 1)
    → one < length sets → other < length sets → EmptyFrom r (set (set sets one a) other b)
empty_both one other a b {sets = sets} x m h l = record {
  inside = rw (length-set, length-set) (omega (arith, m, x.inside, h, l));
  empty = λ s p. get_or-set_other (set sets one a) other s b 0 (λ q. omega (arith, q, p, m))
      ∙ get_or-set_other sets one s a 0 (λ q. omega (arith, q, p, m)) ∙ x.empty s (omega (arith, p, m));
}

pub empty_past : (one other timers : ℕ) {end r : ℕ} {sets after : List ℕ} → EmptyFrom end sets → after ≡ join_along sets one other timers
    → r ≡ max (max end (one + 1)) (other + 1) → one < length sets → other < length sets → EmptyFrom r after
unfolding join_along
empty_past one other timers x e m h l = rw e (empty_both one other _ _ x m h l)

module _ (links : List StoredLink) where
  pub swept_none : (sets : List ℕ) → Swept links 0 sets sets false
  swept_none sets = record { joins = none; same = λ _. (refl, λ k h. absurd (omega arith)); grows = λ t. absurd (true≢false (sym t)) }

  module _ {k : ℕ} (below : k < length links) {start sets after : List ℕ} {grew r : Bool} (x : Swept links k start sets grew)
      (j : JoinedEnds sets (one_on links k) (other_on links k) (timers_on links k) after r) where
    pub swept_grew : r ≡ true → Swept links (k + 1) start after true
    swept_grew e = let g = j.grew e in record {
      joins = rw g.0 (more k below x.joins);
      same = λ t. absurd (true≢false t);
      grows = λ _. go grew refl g.1;
    }
      where
        go : (b : Bool) → grew ≡ b → sum_of sets < sum_of after → sum_of start < sum_of after
        go true t h = omega (arith, x.grows t, h)
        go false t h = omega (arith, ap sum_of (x.same t).0, h)

    pub swept_same : r ≡ false → Swept links (k + 1) start after grew
    swept_same e = let s = j.same e in record {
      joins = rw s.0 x.joins;
      same = λ t. (s.0 ∙ (x.same t).0, λ i h. rw s.0 (go i h (ℕ_discrete i k) (x.same t).1 s.1));
      grows = λ t. rw s.0 (x.grows t);
    }
      where
        go : (i : ℕ) → i < k + 1 → Dec (i ≡ k) → ((i : ℕ) → i < k → EndsAgree sets (one_on links i) (other_on links i) (timers_on links i))
            → EndsAgree sets (one_on links k) (other_on links k) (timers_on links k)
            → EndsAgree sets (one_on links i) (other_on links i) (timers_on links i)
        go i h (yes p) before here = rw p here
        go i h (no n) before here = before i (omega arith)

  -- ---- what joins keep

  pub joins_trans : {l m n : List ℕ} → Joins links l m → Joins links m n → Joins links l n
  joins_trans x none = x
  joins_trans x (more k h y) = more k h (joins_trans x y)

  -- each link hands on what holds of the sets at its two ends
  pub record Steps (P : ℕ → ℕ → Type 0) : Type 0 where
    pub at_one : (k : ℕ) → k < length links → (a b : ℕ) → P (one_on links k) a → P (other_on links k) b
        → P (one_on links k) (joined a (either a b (timers_on links k)))
    pub at_other : (k : ℕ) → k < length links → (a b : ℕ) → P (one_on links k) a → P (other_on links k) b
        → P (other_on links k) (joined b (either a b (timers_on links k)))

  module _ {l : List ℕ} (ends : Ends (length l) links) where
    pub joins_long : {m : List ℕ} → Joins links l m → length m ≡ length l
    joins_long none = refl
    joins_long (more {m} k h x) = join_long m (one_on links k) (other_on links k) (timers_on links k) ∙ joins_long x

    pub joins_all : (P : ℕ → ℕ → Type 0) → Steps P → {m : List ℕ} → Joins links l m → ((x : ℕ) → P x (get_or l x 0)) → (x : ℕ)
        → P x (get_or m x 0)
    joins_all P steps none all = all
    joins_all P steps (more {m} k h y) all =
        let before = joins_all P steps y all in
        join_all m (one_on links k) (other_on links k) (timers_on links k)
        (omega (arith, joins_long y, ends.one_below k h)) (omega (arith, joins_long y, ends.other_below k h)) P
        (steps.at_one k h _ _ (before _) (before _)) (steps.at_other k h _ _ (before _) (before _)) before

    -- the sum of the words has a bound
    pub joins_small : {m : List ℕ} → Joins links l m → ((x : ℕ) → get_or l x 0 < 2 ^ 64) → sum_of m ≤ 2 ^ 64 * length l
    joins_small {m} x small = subst (λ (n : ℕ). sum_of m ≤ 2 ^ 64 * n) (joins_long x) (sum_small m (joins_all (λ x v. v < 2 ^ 64) (record {
      at_one = λ k h a b ha hb. joined_lt 64 a _ ha (common_lt 64 _ _ (joined_lt 64 a b ha hb));
      at_other = λ k h a b ha hb. joined_lt 64 b _ hb (common_lt 64 _ _ (joined_lt 64 a b ha hb));
    }) x small))
