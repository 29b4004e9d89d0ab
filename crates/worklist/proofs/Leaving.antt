-- The edges that leave each location, listed from the last to the first: one more edge is now the first of its source, and the first before is its
-- next.
use mathlib.Core.Path.{◌≡◌, refl, sym, ◌∙◌}
use mathlib.Core.List.{List}
use Prim.Native.Nat.{ℕ, suc, ◌+◌, ◌≤◌, ◌<◌}
use native.Mathlib.Nat.{le_refl}
use native.Mathlib.Numerals.{add-one}
use native.Mathlib.Decide.{ℕ_discrete}
use native.Mathlib.Omega.{arith}
use lib.ListN.{length, get_or, replicate, set, get_or-replicate, length-set}
use lib.Seq.{get_or-set_same, get_or-set_other}
use Rattle.chart_lists.specs.Limits.{most_transitions}
use Rattle.worklist.specs.Worklist.{NextLeaving, Nexts, Firsts}

-- the edges from number i on are listed
pub record ListedFrom (from first next : List ℕ) (i : ℕ) : Type 0 where
  pub firsts : (q : ℕ) → q < length first → NextLeaving from q i (get_or first q 0)
  pub nexts : (j : ℕ) → i ≤ j → j < length from → NextLeaving from (get_or from j 0) (suc j) (get_or next j 0)

-- none is listed yet
pub listed_none : (from first next : List ℕ) → length from ≤ most_transitions → first ≡ replicate (length first) most_transitions
    → ListedFrom from first next (length from)
listed_none from first next few e = record {
  firsts = λ q h. rw (e, get_or-replicate (length first) q most_transitions 0 h) (record {
    later = few;
    leaves = λ l. absurd (omega (arith, l, few));
    none_before = λ j a b l s. absurd (omega (arith, a, l));
  });
  nexts = λ j a l. absurd (omega (arith, a, l));
}

module _ {from first next : List ℕ} {k : ℕ} (x : ListedFrom from first next k) (i : ℕ) (e : k ≡ i + 1) (below : i < length from)
    (inside : get_or from i 0 < length first) (room : i < length next) where
  abbrev here : ℕ
  here = get_or from i 0

  other_leaves : (q f : ℕ) → (q ≡ here → ⊥) → NextLeaving from q k f → NextLeaving from q i f
  other_leaves q f ne n = record {
    later = omega (arith, n.later, e);
    leaves = n.leaves;
    none_before = λ j a b l s. go j a b l s (ℕ_discrete j i);
  }
    where
      go : (j : ℕ) → i ≤ j → j < f → j < length from → get_or from j 0 ≡ q → Dec (j ≡ i) → ⊥
      go j a b l s (yes here) = ne (sym s ∙ rw here refl)
      go j a b l s (no later) = n.none_before j (omega (arith, a, later, e)) b l s

  -- one more
  pub listed_more : ListedFrom from (set first here i) (set next i (get_or first here 0)) i
  listed_more = record { firsts = λ q h. firsts q h (ℕ_discrete q here); nexts = λ j a l. nexts j a l (ℕ_discrete j i) }
    where
      firsts : (q : ℕ) → q < length (set first here i) → Dec (q ≡ here) → NextLeaving from q i (get_or (set first here i) q 0)
      firsts q h (yes p) = rw (p, get_or-set_same first here i 0 inside) (record {
        later = le_refl i;
        leaves = λ l. refl;
        none_before = λ j a b l s. omega (arith, a, b);
      })
      firsts q h (no ne) =
          rw (get_or-set_other first here q i 0 ne) (other_leaves q _ ne (x.firsts q (omega (arith, h, length-set first here i))))

      nexts : (j : ℕ) → i ≤ j → j < length from → Dec (j ≡ i)
          → NextLeaving from (get_or from j 0) (suc j) (get_or (set next i (get_or first here 0)) j 0)
      nexts j a l (yes p) = rw (p, get_or-set_same next i (get_or first here 0) 0 room) (rw (e, add-one) at (x.firsts here inside))
      nexts j a l (no ne) = rw (get_or-set_other next i j (get_or first here 0) 0 ne) (x.nexts j (omega (arith, a, ne, e)) l)

-- all are listed
module _ {from first next : List ℕ} {i : ℕ} (x : ListedFrom from first next i) (none_left : i ≡ 0) where
  pub listed_firsts : Firsts from first
  listed_firsts = record { each = rw none_left at x.firsts }

  pub listed_nexts : length from ≤ length next → Nexts from next
  listed_nexts room = record { room = room; each = λ j l. x.nexts j (omega (arith, none_left)) l }
