-- Families share a location of the words exactly where they meet.
use mathlib.Core.Path.{◌≡◌, sym, ap, ◌∙◌}
use mathlib.Core.Bool.{Bool, not, ◌&&◌}
use mathlib.Core.Option.{some, some-injective, none-ne-some}
use mathlib.Core.List.{List, [], ◌∷◌}
use Prim.Native.Nat.{ℕ, zero, suc, ◌<◌}
use native.Mathlib.Omega.{arith}
use lib.Dec.{eqb}
use lib.ListN.{length, get_or, get_elem?}
use Rattle.timer_set.specs.Members.{member}
use Rattle.lists.specs.Lists.{memb}
use Rattle.lists.proofs.Bools.{same_bool}
use Rattle.lists.proofs.Membership.{any_memb_in, any_memb_out}
use Rattle.lists.proofs.Nth.{below_nth}
use Rattle.model.specs.Family.{Family, meets}
use Rattle.allocation.specs.FamiliesAt.{contains}
use Rattle.allocation.specs.Rows.{in_family, some_in}
use Rattle.allocation.proofs.Below.{some_in_lem, some_out}
use Rattle.meeting.specs.Meeting.{meet_at, RowsOf, Asked}

contains_nth : (fs : List Family) (i s : ℕ) {g : Family} → get_elem? fs i ≡ some g → contains fs i s ≡ memb s g.locations
unfolding contains
contains_nth [] i s e = absurd (none-ne-some _ e)
contains_nth (f ∷ fs) zero s e = ap (λ (g : Family). memb s g.locations) (some-injective _ _ e)
contains_nth (f ∷ fs) (suc i) s e = contains_nth fs i s e

module _ {fs : List Family} {at : List ℕ} {families low high : ℕ} (a : Asked fs at families low high) where
  at_family : (i s : ℕ) {g : Family} → get_elem? fs i ≡ some g → s < length at → in_family at i s ≡ memb s g.locations
  at_family i s e h = a.at_are.holds s i h (omega (arith, below_nth fs i e, a.count_is, a.few)) ∙ contains_nth fs i s e

  some_meets : (i j : ℕ) (g h : Family) → get_elem? fs i ≡ some g → get_elem? fs j ≡ some h
      → some_in at i (λ s. in_family at j s) (length at) ≡ meets g h
  unfolding meets
  some_meets i j g h e e' = same_bool _ _
      (λ t.
      let s = some_out at i (λ s. in_family at j s) (length at) t in
      any_memb_in _ s.0 g.locations (sym (at_family i s.0 e s.1) ∙ s.2) (sym (at_family j s.0 e' s.1) ∙ s.3))
      (λ t.
      let s = any_memb_out (λ q. memb q h.locations) g.locations t in
      let b = a.inside i s.0 g e s.1 in
      some_in_lem at i (λ s. in_family at j s) (length at) s.0 b (at_family i s.0 e b ∙ s.1) (at_family j s.0 e' b ∙ s.2))

  pub rows_of : (rows : List ℕ) → ((i : ℕ) → i < families → (j : ℕ) → member (get_or rows i 0) j ≡ meet_at at i j) → RowsOf fs rows
  unfolding meet_at
  rows_of rows are = record {
    meet = λ i j g h e e'. are i (omega (arith, below_nth fs i e, a.count_is)) j
        ∙ ap (λ (b : Bool). b && not (eqb j i)) (some_meets i j g h e e');
  }
