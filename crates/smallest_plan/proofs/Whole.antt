-- The whole question: all families below n are unplaced and nothing is held, so that what completes are the plans.
use mathlib.Core.Path.{◌≡◌}
use mathlib.Core.Logic.{⊎_elim}
use mathlib.Core.Bool.{true}
use mathlib.Core.List.{List}
use Prim.Native.Nat.{ℕ, ◌+◌, ◌-◌, ◌^◌, ◌≤◌, ◌<◌}
use native.Mathlib.Omega.{arith}
use lib.Pow.{pow_pos}
use lib.ListN.{replicate}
use Rattle.lists.proofs.Bools.{not_both, lt_or_le}
use Rattle.lists.proofs.Zeros.{get_d_zeros}
use Rattle.timer_set.specs.Members.{member}
use Rattle.timer_set.proofs.Members.{member_empty, member_full, member_high}
use Rattle.model.specs.Floor.{most_searched}
use Rattle.smallest_plan.specs.RowPlans.{Mutual, RowPlan, Bounds, SmallestOf}
use Rattle.smallest_plan.specs.Search.{Completes, Completable, SearchReady}
use Rattle.smallest_plan.specs.Cliques.{Candidates, Apart, NumbersNeeded}

abbrev pub zeros : List ℕ
zeros = replicate 20 0

below_n : (n i : ℕ) → member (2 ^ n - 1) i ≡ true → i < n
below_n n i m = ⊎_elim (λ l. l) (λ l. absurd (not_both m (member_high n (2 ^ n - 1) i (omega (arith, pow_pos n)) l))) (lt_or_le i n)

-- all families may be in a clique
pub all_candidates : {rows : List ℕ} {n : ℕ} → n ≤ most_searched → Mutual rows n → Candidates rows (2 ^ n - 1)
all_candidates {n = n} h M = record { below = λ i m. omega (arith, below_n n i m); other = λ i m. M.other i (below_n n i m) }

module _ {rows : List ℕ} {n k : ℕ} where
  pub ready_start : n ≤ most_searched → k ≤ most_searched → Mutual rows n → SearchReady rows zeros k (2 ^ n - 1) 0
  ready_start h l M = record {
    families = n;
    few_families = h;
    meetings = M;
    within = below_n n;
    few_numbers = l;
    used_few = omega arith;
    fresh = λ c u. get_d_zeros 20 c;
  }

  plan_completes : {f : ℕ → ℕ} → RowPlan rows n k f → Completes rows zeros k (2 ^ n - 1) f
  plan_completes {f} P = record {
    below = λ i m. P.below i (below_n n i m);
    free = λ i m h. not_both (rw (get_d_zeros 20 (f i)) at h) (member_empty i);
    apart = λ i j m o. P.apart i j (below_n n i m) (below_n n j o);
  }

  completes_plan : {f : ℕ → ℕ} → Completes rows zeros k (2 ^ n - 1) f → RowPlan rows n k f
  completes_plan C = record {
    below = λ i l. C.below i (member_full n i l);
    apart = λ i j l q. C.apart i j (member_full n i l) (member_full n j q);
  }

  -- the bound by a clique
  pub raised : {low high : ℕ} → Bounds rows n low high → NumbersNeeded rows (2 ^ n - 1) low k → Bounds rows n k high
  raised B A = record { by = B.by; plan = B.plan; least = λ j f P. A.needed j f (plan_apart P) (B.least j f P) }
    where
      plan_apart : {j : ℕ} {f : ℕ → ℕ} → RowPlan rows n j f → Apart rows j (2 ^ n - 1) f
      plan_apart P = record { below = λ i m. P.below i (below_n n i m); apart = λ i j m o. P.apart i j (below_n n i m) (below_n n j o) }

  -- k timers are enough, or too few
  pub enough : {high : ℕ} → Bounds rows n k high → Completable rows zeros k (2 ^ n - 1) → SmallestOf rows n k
  enough B S = record { by = S.by; plan = completes_plan S.completes; least = B.least }

  pub too_few : {high : ℕ} → Bounds rows n k high → ((f : ℕ → ℕ) → Completes rows zeros k (2 ^ n - 1) f → ⊥) → Bounds rows n (k + 1) high
  too_few B none = record {
    by = B.by;
    plan = B.plan;
    least = λ j f P.
        let l = B.least j f P in
        let d : j ≡ k → ⊥ = λ e. none f (plan_completes (rw e at P)) in
        omega arith;
  }

  -- the bounds are one
  pub met : {high : ℕ} → Bounds rows n k high → high ≤ k → SmallestOf rows n high
  met B l = record { by = B.by; plan = B.plan; least = λ j f P. omega (arith, B.least j f P) }

-- only one number is the smallest
pub one_smallest : {rows : List ℕ} {n m k : ℕ} → SmallestOf rows n m → SmallestOf rows n k → m ≡ k
one_smallest {m = m} {k = k} S T = omega (arith, S.least k T.by T.plan, T.least m S.by S.plan)
