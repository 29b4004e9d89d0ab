-- A candidate taken aside: those left that it meets do with one number fewer, so one more than they need is needed.
use mathlib.Core.Path.{◌≡◌, sym, ◌∙◌}
use mathlib.Core.Logic.{⊎_elim}
use mathlib.Core.Bool.{true, false}
use mathlib.Core.List.{List}
use Prim.Native.Nat.{ℕ, ◌+◌, ◌-◌, ◌≤◌, ◌<◌}
use native.Mathlib.Nat.{eq-or-lt_of_le}
use native.Mathlib.Omega.{arith}
use lib.Bits.{and_le_l}
use lib.ListN.{get_or}
use Rattle.lists.proofs.Bools.{not_both, and_left, and_right}
use Rattle.timer_set.specs.Members.{member, common}
use Rattle.timer_set.proofs.Members.{member_common}
use Rattle.model.specs.Floor.{most_searched}
use Rattle.smallest_plan.specs.RowPlans.{meet_in}
use Rattle.smallest_plan.specs.Cliques.{Candidates, Apart, NumbersNeeded}
use Rattle.smallest_plan.proofs.Exchange.{exchanged, exchanged_same, exchanged_less}

-- a part of the candidates
pub candidates_part : {rows : List ℕ} {w u : ℕ} → ((i : ℕ) → member u i ≡ true → member w i ≡ true) → Candidates rows w → Candidates rows u
candidates_part s C = record { below = λ i m. C.below i (s i m); other = λ i m. C.other i (s i m) }

-- each candidate may have its own number, so that no more than all are ever needed
pub few : {rows : List ℕ} {w least r : ℕ} → Candidates rows w → NumbersNeeded rows w least r → least ≤ most_searched → r ≤ most_searched
few C A l = A.needed most_searched (λ i. i) (record { below = C.below; apart = λ i j m o t e. not_both t (rw (sym e) (C.other i m)) }) l

-- nothing is tried yet
pub given : (rows : List ℕ) (w least : ℕ) → NumbersNeeded rows w least least
given rows w least = record { needed = λ k f P l. l }

pub common_in : (a b i : ℕ) → member (common a b) i ≡ true → member a i ≡ true
common_in a b i n = and_left (member a i) _ (sym (member_common a b i) ∙ n)

module _ (rows : List ℕ) (left v : ℕ) (m : member left v ≡ true) where
  meets : (i : ℕ) → member (common left (get_or rows v 0)) i ≡ true → meet_in rows v i ≡ true
  unfolding meet_in
  meets i n = and_right (member left i) _ (sym (member_common left _ i) ∙ n)

  -- v is not among those that it meets, so that these are a smaller number
  pub common_less : meet_in rows v v ≡ false → common left (get_or rows v 0) < left
  unfolding common
  common_less q = ⊎_elim (λ e. absurd (not_both (meets v (rw e m)) q)) (λ l. l) (eq-or-lt_of_le (and_le_l left (get_or rows v 0)))

  -- those that v meets have numbers other than its: with the last in place of it, they do without the last
  aside : {k : ℕ} {f : ℕ → ℕ} → Apart rows k left f → Apart rows (k - 1) (common left (get_or rows v 0)) (λ i. exchanged (f v) (k - 1) (f i))
  aside {k} {f} P = record {
    below = λ i n.
        let a = P.below v m in
        let b = P.below i (among i n) in
        exchanged_less (f v) (k - 1) (f i) (omega arith) (omega arith) (λ e. P.apart v i m (among i n) (meets i n) (sym e));
    apart = λ i j n o t e. P.apart i j (among i n) (among j o) t (exchanged_same (f v) (k - 1) (f i) (f j) e);
  }
    where
      among : (i : ℕ) → member (common left (get_or rows v 0)) i ≡ true → member left i ≡ true
      among = common_in left (get_or rows v 0)

  -- one more than those need
  pub one_more : {w least best r : ℕ} → ((i : ℕ) → member left i ≡ true → member w i ≡ true) → NumbersNeeded rows w least best
      → NumbersNeeded rows (common left (get_or rows v 0)) (best - 1) r → NumbersNeeded rows w least (r + 1)
  one_more s A B = record {
    needed = λ k f P l.
        let Q : Apart rows k left f = record { below = λ i n. P.below i (s i n); apart = λ i j n o. P.apart i j (s i n) (s j o) } in
        let b = A.needed k f P l in
        let d = B.needed (k - 1) _ (aside Q) (omega arith) in
        omega (arith, Q.below v m);
  }
