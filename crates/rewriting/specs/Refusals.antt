-- The refusals of the rewriting: their numbers and their places, and what the chart of a refused file is (document 01, "Turned down ..").
use Rattle.std.specs.Prelude.{◌≡◌, List, ℕ}
use Rattle.model.specs.Answer.{nowhere}
use Rattle.model.specs.Chart.{Chart}
use Rattle.judgement.specs.Charts.{Accepts}
use Rattle.judgement.specs.Refusals.{RefusalOfJudgement}

-- 1 to 10 of the file; 11, 20 and 21 have no place
pub data RefusalOfRewriting (n p : ℕ) : Type 0 where
  of_judgement : RefusalOfJudgement n p → RefusalOfRewriting n p
  of_limit : n ≡ 11 → p ≡ nowhere → RefusalOfRewriting n p
  of_used : n ≡ 20 → p ≡ nowhere → RefusalOfRewriting n p
  of_room : n ≡ 21 → p ≡ nowhere → RefusalOfRewriting n p

-- the file holds a chart with a property, which neither 9 nor 10 refuses
pub record HoldsAccepted (bs : List ℕ) (P : Chart → Type 0) : Type 0 where
  pub chart : Chart
  pub accepts : Accepts bs chart
  pub has : P chart
