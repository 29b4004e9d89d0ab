-- The chart's transitions by their numbers, and what a valid chart says of each.
use mathlib.Core.Path.{◌≡◌, sym, ◌∙◌, subst}
use mathlib.Core.Bool.{true}
use mathlib.Core.Option.{some, some-injective, none-ne-some}
use mathlib.Core.List.{List, [], ◌∷◌}
use Prim.Native.Nat.{ℕ, zero, suc, ◌<◌}
use lib.Dec.{eqb}
use lib.ListN.{get_elem?}
use Rattle.lists.specs.Rising.{All}
use Rattle.lists.proofs.Bools.{same_number}
use Rattle.lists.proofs.Membership.{any_out}
use Rattle.model.specs.Chart.{Test, Transition, Chart, Nth, tested}
use Rattle.model.specs.Valid.{Valid, ValidTest, ValidTransition}

module _ {A : Type 0} where
  pub all_nth : (P : A → Type 0) (l : List A) (i : ℕ) {a : A} → All P l → get_elem? l i ≡ some a → P a
  all_nth P [] i h e = absurd (none-ne-some _ e)
  all_nth P (x ∷ l) zero h e = subst P (some-injective _ _ e) h.0
  all_nth P (x ∷ l) (suc i) h e = all_nth P l i h.1 e

-- a number has one transition
pub nth_same : {c : Chart} {i : ℕ} {r s : Transition} → Nth c i r → Nth c i s → r ≡ s
nth_same n m = some-injective _ _ (sym n.there ∙ m.there)

module _ {W : ℕ} {c : Chart} (valid : Valid W c) where
  pub nth_valid : {i : ℕ} {r : Transition} → Nth c i r → ValidTransition W c.locations c.timers r
  nth_valid {i} n = all_nth (ValidTransition W c.locations c.timers) c.transitions i valid.transitions n.there

  -- a tested timer is one of the chart's
  pub tested_below : {i : ℕ} {r : Transition} (j : ℕ) → Nth c i r → tested j r.tests ≡ true → j < c.timers
  unfolding tested
  tested_below {r = r} j n t =
      let x = any_out (λ (u : Test). eqb j u.timer) r.tests t in
      let v = all_nth (ValidTest W c.timers) r.tests x.0 (nth_valid n).tests x.2 in
      subst (λ (k : ℕ). k < c.timers) (sym (same_number x.3)) v.timer
