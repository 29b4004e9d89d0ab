-- At a location twins have one number, and timers that are no twins different ones: by the sharing rule, whatever numbering keeps it, and so by first
-- fit in the part that counts of a chart. Nothing is hard. Assumes nothing.
use mathlib.Core.Path.{refl}
use mathlib.Core.Logic.{◌↔◌}
use mathlib.Core.List.{[]}
use Prim.Native.Nat.{ℕ}
use Rattle.model.specs.Chart.{Chart}
use Rattle.model.specs.Valid.{Valid}
use Rattle.model.specs.Path.{Live}
use Rattle.model.specs.Spare.{reached_part}
use Rattle.model.specs.Twins.{Twins}
use Rattle.model.specs.Rewrite.{Numbering, board_numbering}
use Rattle.model.specs.Plan.{Has}
use Rattle.model.specs.SharingRule.{SameFamily, SharingRule}
use Rattle.model.proofs.Twins.{live_itself}
use Rattle.model.proofs.SharingDetermined.{different_here}
use Rattle.model.proofs.ReachedPart.{part_valid, part_live}
use Rattle.model.proofs.FirstFitShares.{first_fit_shares}

module _ {W : ℕ} {c : Chart} (valid : Valid W c) where
  pub rule_number_iff : {N : Numbering} → SharingRule c N → (q j i k : ℕ) → Has N q j k → Live c q i → Has N q i k ↔ Twins c j i
  rule_number_iff rule q j i k e l =
      let here : SameFamily c j q q = record { pair = live_itself (rule.live q j k e); way = []; chain = refl } in
      (different_here valid rule q j i k e, λ t. rule.one_number q q j i k here t l e)

-- a location at which a timer has a number is reached, and what is live there in the chart is live in the part
pub one_number_iff : {W : ℕ} {c : Chart} → Valid W c → (q j i k : ℕ) → Has (board_numbering (reached_part c)) q j k → Live c q i
    → Has (board_numbering (reached_part c)) q i k ↔ Twins (reached_part c) j i
one_number_iff valid q j i k e l =
    let rule = first_fit_shares (part_valid valid) in
    let reach = ((part_live valid q j).0 (rule.live q j k e)).0 in
    rule_number_iff (part_valid valid) rule q j i k e ((part_live valid q i).1 (reach, l))
