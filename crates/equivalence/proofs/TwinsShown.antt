-- The file that the rewriting returns, read through twins (document 02, P6): at every point of a run, from any counts in either, the board timer that
-- has the number of one of a drawn timer's twins shows that timer's count, and a step of the run has started it. It holds of every plan, and the
-- board numbers of the file's chart are one.
use mathlib.Core.Path.{◌≡◌}
use mathlib.Core.List.{List, ◌++◌}
use Prim.Native.Nat.{ℕ}
use Rattle.model.specs.Answer.{returned}
use Rattle.model.specs.Chart.{Chart}
use Rattle.model.specs.Run.{Counts, Step}
use Rattle.model.specs.Spare.{reached_part}
use Rattle.model.specs.Rewrite.{board_numbering, rewritten}
use Rattle.model.specs.Judge.{Rewriting}
use Rattle.model.specs.Equivalence.{IsRun}
use Rattle.model.proofs.RewritingAlike.{rewriting_is}
use Rattle.file_format.specs.Parse.{Bytes}
use Rattle.file_format.specs.File.{chart_in}
use Rattle.file_format.proofs.File.{reads_storable}
use Rattle.rewriting.specs.Rewriting.{rewrite_into}
use Rattle.twin_laws.specs.InRuns.{ShownAtPoints}
use Rattle.twin_laws.proofs.InRuns.{first_fit_shown}
use Rattle.equivalence.proofs.DemandHolds.{made}

-- a file, the chart that it holds, and what the rewriting returns for it
module _ (K room : ℕ) (bs : List ℕ) (bytes : Bytes bs) (c : Chart) (reads : chart_in bs ≡ returned c) (x : Rewriting)
    (e : rewrite_into K room bs ≡ returned x) where
  pub twins_shown : (x.chart ≡ rewritten c)
      × ((v w : Counts) (taken rest : List Step) → IsRun c v (taken ++ rest)
      → ShownAtPoints c (reached_part c) (rewritten c) (board_numbering (reached_part c)) v w taken)
  twins_shown =
      let r = rewriting_is K c x (made K room bs bytes c reads x e) in
      (r.chart, first_fit_shown (reads_storable bs c bytes reads).valid r.accepted)
