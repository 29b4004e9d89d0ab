-- The analysis' answer as it was formed before the number of rounds was asked for (document 02, P3): used, floor and searched, or a refusal. That it
-- is still formed so, of the part of the chart that counts, is shown in proofs/Before. Assumes nothing.
use Rattle.std.specs.Prelude.{Bool, List, ℕ}
use Rattle.model.specs.Answer.{Answer, returned, then}
use Rattle.model.specs.Spare.{reached_part}
use Rattle.model.specs.FirstFit.{used}
use Rattle.model.specs.Floor.{floor, searched}
use Rattle.analysis.specs.declared.Analysis.{Analysis}
use Rattle.analysis.specs.Analysing.{analysed_in}

pub record ValuesBefore : Type 0 where
  pub used : ℕ
  pub floor : ℕ
  pub searched : Bool

unfoldable pub answer_before : (room : ℕ) → List ℕ → Answer ValuesBefore
answer_before room bs = then (analysed_in room bs)
    (λ c. let part = reached_part c in returned (record { used = used part; floor = floor part; searched = searched part }))

-- the values without the number of rounds
unfoldable pub without_rounds : Analysis → ValuesBefore
without_rounds f = record { used = f.used; floor = f.floor; searched = f.searched }
