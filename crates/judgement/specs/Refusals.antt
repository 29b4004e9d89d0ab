-- The refusals of the judgement: their numbers and their places (document 01, "Turned down ..").
use Rattle.std.specs.Prelude.{◌≡◌, ℕ, ◌<◌}
use Rattle.file_format.specs.Refusals.{RefusalOfFile}

-- 1 to 8 of the file; 9 with a location, 10 with a transition
pub data RefusalOfJudgement (n p : ℕ) : Type 0 where
  of_file : RefusalOfFile n p → RefusalOfJudgement n p
  of_unreached : n ≡ 9 → p < 256 → RefusalOfJudgement n p
  of_unstarted : n ≡ 10 → p < 512 → RefusalOfJudgement n p
