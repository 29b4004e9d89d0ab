-- The refusals of the analysis: their numbers and their places, and when 21 comes (document 01, "Turned down ..").
use Rattle.std.specs.Prelude.{◌≡◌, List, ℕ, ◌<◌}
use Rattle.model.specs.Answer.{nowhere}
use Rattle.model.specs.Chart.{Chart}
use Rattle.judgement.specs.Charts.{Accepts}
use Rattle.judgement.specs.Refusals.{RefusalOfJudgement}

-- 1 to 10 of the judgement; 21, which has no place
pub data RefusalOfAnalysis (n p : ℕ) : Type 0 where
  of_judgement : RefusalOfJudgement n p → RefusalOfAnalysis n p
  of_short_list : n ≡ 21 → p ≡ nowhere → RefusalOfAnalysis n p

-- the file holds an accepted chart with more locations than there is room
pub record TooShort (room : ℕ) (bs : List ℕ) : Type 0 where
  pub chart : Chart
  pub accepts : Accepts bs chart
  pub more : room < chart.locations
