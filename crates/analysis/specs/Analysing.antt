-- What the analysis of a chart file answers, and the live sets that it leaves in the lent list (`overwritten analysed_sets`): both of the part of the
-- chart that counts (document 02, P7).
use Rattle.std.specs.Prelude.{List, ℕ, leb}
use Rattle.model.specs.Answer.{Answer, returned, then, unless, nowhere}
use Rattle.model.specs.Chart.{Chart}
use Rattle.model.specs.Live.{live_sets, live_rounds}
use Rattle.model.specs.Spare.{reached_part}
use Rattle.model.specs.FirstFit.{used}
use Rattle.model.specs.Floor.{floor, searched}
use Rattle.judgement.specs.Judging.{judged_in}
use Rattle.analysis.specs.declared.Analysis.{Analysis}

-- 21 if the lent list is shorter than the number of locations
unfoldable pub analysed_chart : (room : ℕ) → Chart → Answer Chart
analysed_chart room c = unless (leb c.locations room) 21 nowhere (returned c)

-- 1 to 10, then 21
unfoldable pub analysed_in : (room : ℕ) → List ℕ → Answer Chart
analysed_in room bs = then (judged_in bs) (analysed_chart room)

-- how many timers the board numbers use; the floor; whether the floor is the smallest number of timers of any plan, else it is the count of the
-- fullest live set, twins counted once; and how many rounds find the live sets: of the part of the chart that counts
unfoldable pub values_of : Chart → Analysis
values_of c = let part = reached_part c in
    record { used = used part; floor = floor part; searched = searched part; rounds = live_rounds part }

-- the sets that the list is left with: the live set of each location; that of a location which no path reaches is empty
unfoldable pub analysed_sets : Chart → List ℕ
analysed_sets c = live_sets (reached_part c)

-- what is answered
unfoldable pub analyse_answer : (room : ℕ) → List ℕ → Answer Analysis
analyse_answer room bs = then (analysed_in room bs) (λ c. returned (values_of c))
