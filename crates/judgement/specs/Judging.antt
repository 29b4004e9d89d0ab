-- The judgement that all calls share: a file's refusals 1 to 8, then 9, then 10.
use Rattle.std.specs.Prelude.{List, ℕ}
use Rattle.model.specs.Answer.{Answer, returned, then}
use Rattle.model.specs.Chart.{Chart}
use Rattle.model.specs.Judge.{judged}
use Rattle.file_format.specs.File.{chart_in}
use Rattle.chart_lists.specs.declared.Header.{Header}
use Rattle.chart_lists.specs.Header.{header_of}

-- the chart of a file, or its refusal, 1 to 10
unfoldable pub judged_in : List ℕ → Answer Chart
judged_in bs = then (chart_in bs) judged

unfoldable pub judged_header : List ℕ → Answer Header
judged_header bs = then (judged_in bs) (λ c. returned (header_of c))

-- 9 and 10 alone, of a chart
unfoldable pub header_judged : Chart → Answer Header
header_judged c = then (judged c) (λ d. returned (header_of d))
