-- A plan for the rows is a plan for the families, so the smallest of the ones has the fewest timers of the others.
use mathlib.Core.Path.{◌≡◌, refl, sym, ap, ◌∙◌}
use mathlib.Core.Bool.{true, false, not}
use mathlib.Core.Option.{some}
use mathlib.Core.List.{List}
use Prim.Native.Nat.{ℕ, ◌≤◌, ◌<◌}
use native.Mathlib.Omega.{arith}
use lib.Dec.{eqb}
use lib.ListN.{length, get_elem?}
use borrow.Author.Tests.{ne_eqb}
use Rattle.lists.proofs.Bools.{not_both, not-true, is_no, and_left, and_right, and_both, eqb_self}
use Rattle.lists.proofs.Nth.{nth_below, below_nth}
use Rattle.model.specs.Family.{Family, meets}
use Rattle.model.specs.SmallestPlan.{fewest}
use Rattle.smallest_plan.specs.RowPlans.{meet_in, Mutual, RowPlan, Bounds, SmallestOf}
use Rattle.sharing_plans.specs.FamilyPlans.{FamilyPlan}
use Rattle.sharing_plans.proofs.Fewest.{meets_sym, fewest_plan, fewest_least}
use Rattle.meeting.specs.Meeting.{RowsOf}

module _ {fs : List Family} {rows : List ℕ} (r : RowsOf fs rows) where
  row_in : (i j : ℕ) {g h : Family} → get_elem? fs i ≡ some g → get_elem? fs j ≡ some h → meets g h ≡ true → (i ≡ j → ⊥) → meet_in rows i j ≡ true
  unfolding meet_in
  row_in i j e e' m ne = r.meet i j _ _ e e' ∙ and_both m (ap not (ne_eqb j i (λ p. ne (sym p))))

  -- the i-th and the j-th family meet, and are not the same
  record MeetAt (i j : ℕ) : Type 0 where
    one : Family
    other : Family
    is_one : get_elem? fs i ≡ some one
    is_other : get_elem? fs j ≡ some other
    meet : meets one other ≡ true
    different : i ≡ j → ⊥

  module _ {n : ℕ} (is : n ≡ length fs) where
    row_out : (i j : ℕ) → i < n → j < n → meet_in rows i j ≡ true → MeetAt i j
    unfolding meet_in
    row_out i j l l' m =
        let g = nth_below fs i (omega (arith, l, is)) in
        let h = nth_below fs j (omega (arith, l', is)) in
        let b = sym (r.meet i j g.0 h.0 g.1 h.1) ∙ m in
        let apart : eqb j i ≡ false = not-true _ (and_right (meets g.0 h.0) _ b) in
        record {
          one = g.0;
          other = h.0;
          is_one = g.1;
          is_other = h.1;
          meet = and_left (meets g.0 h.0) _ b;
          different = λ p. not_both (eqb_self j) (rw p at apart);
        }

    pub rows_mutual : Mutual rows n
    rows_mutual = record {
      both = λ i j l l' m.
          let o = row_out i j l l' m in
          row_in j i o.is_other o.is_one (meets_sym o.one o.other o.meet) (λ p. o.different (sym p));
      other = λ i l. is_no _ (λ m. (row_out i i l l m).different refl);
    }

    family_plan : {k : ℕ} {f : ℕ → ℕ} → RowPlan rows n k f → FamilyPlan fs k f
    family_plan p = record {
      below = λ i h. p.below i (omega (arith, h, is));
      different = λ i j g h e e' ne m.
          p.apart i j (omega (arith, below_nth fs i e, is)) (omega (arith, below_nth fs j e', is)) (row_in i j e e' m ne);
    }

    -- a plan for the families is one for the rows with as many timers or more
    row_plan : {k m : ℕ} {f : ℕ → ℕ} → k ≤ m → FamilyPlan fs k f → RowPlan rows n m f
    row_plan le p = record {
      below = λ i l. omega (arith, p.below i (omega (arith, l, is)), le);
      apart = λ i j l l' m.
          let o = row_out i j l l' m in
          p.different i j o.one o.other o.is_one o.is_other o.different o.meet;
    }

    pub bounds : {low high : ℕ} → low ≤ fewest fs → fewest fs ≤ high → Bounds rows n low high
    bounds l h = record {
      by = (fewest_plan fs).0;
      plan = row_plan h (fewest_plan fs).1;
      least = λ k f p. omega (arith, l, fewest_least (family_plan p));
    }

    pub smallest_is : {m : ℕ} → SmallestOf rows n m → m ≡ fewest fs
    smallest_is s =
        let up = s.least (fewest fs) (fewest_plan fs).0 (row_plan (omega arith) (fewest_plan fs).1) in
        omega (arith, up, fewest_least (family_plan s.plan))
