-- The families that begin at the pairs of all locations, in turn, are all families.
use mathlib.Core.Path.{◌≡◌, refl, ap, ◌∙◌}
use mathlib.Core.List.{List, []}
use Prim.Native.Nat.{ℕ, ◌*◌, ◌≤◌}
use native.Mathlib.Omega.{arith}
use Rattle.lists.specs.Lists.{gather}
use Rattle.lists.proofs.Bools.{is_no}
use Rattle.lists.proofs.Flatten.{gather_same, gather_more, gather_rows}
use Rattle.model.specs.Family.{Pairs, is_pair, Family, family_from, families, WellFormed}
use Rattle.model.specs.FirstFit.{place, first_fit}
use Rattle.allocation.specs.Turns.{families_to}

module _ {p : Pairs} (formed : WellFormed p) where
  pub all_families : families_to p (64 * p.locations) ≡ families p
  unfolding families_to families family_from
  all_families =
      gather_rows (family_from p) p.locations
      ∙ gather_same (λ q. gather (family_from p q) 64) (λ q. gather (family_from p q) p.timers) p.locations
      (λ q h. gather_more (family_from p q) p.timers 64 formed.few_timers (λ j l. none q j l))
    where
      none : (q j : ℕ) → p.timers ≤ j → family_from p q j ≡ []
      none q j l = rw (is_no (is_pair p q j) (λ h. omega (arith, formed.timer q j h)), family_from) refl

  pub all_placed : place (families_to p (64 * p.locations)) [] ≡ first_fit p
  unfolding first_fit
  all_placed = ap (λ (fs : List Family). place fs []) all_families
