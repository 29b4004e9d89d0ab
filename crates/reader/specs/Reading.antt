-- What the reader of a chart file answers, and what it leaves in the lent lists.
use Rattle.std.specs.Prelude.{List, ℕ}
use Rattle.model.specs.Answer.{Answer, returned, refused, then, unless, nowhere}
use Rattle.model.specs.Chart.{Chart}
use Rattle.file_format.specs.File.{chart_in}
use Rattle.chart_lists.specs.Lists.{Lists, lists_of, put_lists, room_for}
use Rattle.chart_lists.specs.declared.Header.{Header}
use Rattle.chart_lists.specs.Header.{header_of}

-- the chart of a file, 1 to 8; then 21 if a lent list is too short for it
unfoldable pub read_into : Lists → List ℕ → Answer Chart
read_into l bs = then (chart_in bs) (λ c. unless (room_for (lists_of c) l) 21 nowhere (returned c))

unfoldable pub read_answer : Lists → List ℕ → Answer Header
read_answer l bs = then (read_into l bs) (λ c. returned (header_of c))

-- the lent lists afterwards: the chart's over their fronts, or as they were
abbrev pub lists_after : Answer Chart → Lists → Lists
lists_after (returned c) l = put_lists (lists_of c) l
lists_after (refused n p) l = l
