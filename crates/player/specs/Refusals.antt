-- The refusals of the player: their numbers and their places (document 01, "Turned down ..").
use Rattle.std.specs.Prelude.{◌≡◌, ◌⊎◌, true, [], ◌∷◌, ℕ, ◌<◌}
use Rattle.lists.specs.Lists.{memb}
use Rattle.model.specs.Answer.{nowhere}
use Rattle.judgement.specs.Refusals.{RefusalOfJudgement}

-- 1 to 10 of the judgement; 12 with none or a timer, 13 with none; 14, 15, 22, 23, 24 with the number of a step
pub data RefusalOfPlay (steps n p : ℕ) : Type 0 where
  of_judgement : RefusalOfJudgement n p → RefusalOfPlay steps n p
  of_counts : n ≡ 12 → (p ≡ nowhere) ⊎ (p < 64) → RefusalOfPlay steps n p
  of_lengths : n ≡ 13 → p ≡ nowhere → RefusalOfPlay steps n p
  of_step : memb n (14 ∷ 15 ∷ 22 ∷ 23 ∷ 24 ∷ []) ≡ true → p < steps → RefusalOfPlay steps n p
