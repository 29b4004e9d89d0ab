-- What the rewriting of a chart file for a board of K timers answers; in the lent buffer it leaves the new file (`overwritten new_file`).
use Rattle.std.specs.Prelude.{List, ℕ, leb, length}
use Rattle.model.specs.Answer.{Answer, returned, then, unless, nowhere}
use Rattle.model.specs.Judge.{Rewriting, rewriting}
use Rattle.file_format.specs.File.{chart_in, file_of}
use Rattle.rewriting.specs.declared.Rewriting.{Rewriting as Rewritten}

-- 1 to 8, then 9, 10, 11, 20 as the chart is judged, then 21 if the buffer is too short for the rewritten file
unfoldable pub rewrite_into : (K room : ℕ) → List ℕ → Answer Rewriting
rewrite_into K room bs =
    then (chart_in bs) (λ c.
    then (rewriting K c) (λ x.
    unless (leb (length (file_of x.chart)) room) 21 nowhere (
    returned x)))

-- the rewritten chart's file
abbrev pub new_file : Rewriting → List ℕ
new_file x = file_of x.chart

-- what is answered of a rewriting: how many timers of the board are used, and the length of the new file
abbrev pub RewritingValues : Type 0
RewritingValues = Rewritten

unfoldable pub values_of : Rewriting → RewritingValues
values_of x = record { used = x.used; length = length (file_of x.chart) }

unfoldable pub rewrite_answer : (K room : ℕ) → List ℕ → Answer RewritingValues
rewrite_answer K room bs = then (rewrite_into K room bs) (λ x. returned (values_of x))
