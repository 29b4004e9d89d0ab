-- The refusals that the text can show: their numbers and their places (document 01, "Turned down ..").
use Rattle.std.specs.Prelude.{◌≡◌, ℕ}
use Rattle.model.specs.Answer.{nowhere}
use Rattle.judgement.specs.Refusals.{RefusalOfJudgement}

-- 1 to 10 of the judgement, 11, 16 and 20; never 21
pub data RefusalShown (n p : ℕ) : Type 0 where
  of_judgement : RefusalOfJudgement n p → RefusalShown n p
  of_limit : n ≡ 11 → p ≡ nowhere → RefusalShown n p
  of_size : n ≡ 16 → p ≡ nowhere → RefusalShown n p
  of_used : n ≡ 20 → p ≡ nowhere → RefusalShown n p
