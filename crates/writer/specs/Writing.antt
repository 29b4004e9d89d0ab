-- What the writer answers: 2, then 3 to 8 in the order of the file's fields, then 17 (list_judging/specs/FromLists), then 21, then the file.
use Rattle.std.specs.Prelude.{ℕ, leb, length}
use Rattle.model.specs.Answer.{Answer, returned, then, unless, nowhere}
use Rattle.model.specs.Chart.{Chart}
use Rattle.file_format.specs.File.{file_of}
use Rattle.chart_lists.specs.Lists.{Lists}
use Rattle.chart_lists.specs.declared.Header.{Header}
use Rattle.list_judging.specs.FromLists.{chart_from}

-- the chart whose file is written; 21 if the buffer is too short for it
unfoldable pub write_into : (room : ℕ) → Header → Lists → Answer Chart
write_into room m l = then (chart_from m l) (λ c. unless (leb (length (file_of c)) room) 21 nowhere (returned c))

-- the length of the file
unfoldable pub write_answer : (room : ℕ) → Header → Lists → Answer ℕ
write_answer room m l = then (write_into room m l) (λ c. returned (length (file_of c)))
