-- Each placed family has a live timer, with its number, at its first location; so the largest of the numbers used is given to one. That every number
-- given is below the count of those used is `number_under` of BoardPlan.
use mathlib.Core.Path.{◌≡◌, sym, ap, subst, ◌∙◌}
use mathlib.Core.Bool.{true}
use mathlib.Core.Option.{some}
use Prim.Native.Nat.{ℕ, suc}
use lib.ListN.{get_elem?}
use Rattle.model.specs.Chart.{Chart}
use Rattle.model.specs.Valid.{Valid}
use Rattle.model.specs.Twins.{lowest_twin}
use Rattle.model.specs.Family.{Family, has, live_pairs, WellFormed}
use Rattle.model.specs.FirstFit.{Placed, first_fit, board}
use Rattle.model.specs.Rewrite.{board_numbering}
use Rattle.model.specs.Plan.{Has}
use Rattle.model.proofs.FirstFit.{used_reached as placed-reached}
use Rattle.model.proofs.PairNumbers.{placed_family, has_first}
use Rattle.model.proofs.PlacedOnce.{placed_number}
use Rattle.model.proofs.Families.{family_timer}
use Rattle.model.proofs.FamilyNumbers.{LiveFamily, live_family}
use Rattle.model.proofs.LivePairs.{live_pairs_formed}
use Rattle.model.proofs.BoardPlan.{number_iff, numbering_used}

module _ {W : ℕ} {c : Chart} (valid : Valid W c) where
  formed : WellFormed (live_pairs c)
  formed = live_pairs_formed valid

  -- its live timer has the number that the family was given
  pub live_family_number : (i : ℕ) (g : Placed) → get_elem? (first_fit (live_pairs c)) i ≡ some g
      → (o : LiveFamily valid g.family) → Has (board_numbering c) g.family.first o.timer g.number
  unfolding board
  live_family_number i g e o =
      let f = g.family in
      let its : has f f.first (lowest_twin c o.timer) ≡ true =
      subst (λ (t : ℕ). has f f.first t ≡ true)
      (ap (λ (x : Family). x.timer) o.whole ∙ family_timer (live_pairs c) f.first (lowest_twin c o.timer))
      (has_first formed f (placed_family formed i g e)) in
      (number_iff valid f.first o.timer g.number).1 (o.live, placed_number formed f.first (lowest_twin c o.timer) i g e its)

  pub used_reached : (u : ℕ) → (board_numbering c).used ≡ suc u → (q : ℕ) × (j : ℕ) × Has (board_numbering c) q j u
  unfolding board
  used_reached u e =
      let x = placed-reached (first_fit (live_pairs c)) u (sym (numbering_used c) ∙ e) in
      let o = live_family valid x.1.family (placed_family formed x.0 x.1 x.2) in
      (x.1.family.first, o.timer, live_family_number x.0 x.1 x.2 o ∙ ap (λ (n : ℕ). some n) x.3)
