-- What the player answers, called on a chart file.
use Rattle.std.specs.Prelude.{List, ℕ, eqb}
use Rattle.model.specs.Answer.{Answer, then, unless, nowhere}
use Rattle.model.specs.Chart.{Chart}
use Rattle.model.specs.Player.{Arrival, counts_judged, played}
use Rattle.file_format.specs.File.{chart_in}
use Rattle.chart_lists.specs.declared.ChartLists.{ChartLists}
use Rattle.chart_lists.specs.Lists.{Lists, lists, lists_of}
use Rattle.player.specs.declared.Arrival.{Arrival as Code·Arrival}

-- 1 to 8, then as the player on the chart: 9, 10, 12, 13, then step by step 14, 15, 22, 23, 24
unfoldable pub play_answer : (file counts transitions times : List ℕ) → Answer Arrival
play_answer bs counts is ts = then (chart_in bs) (λ c. played c counts is ts)

-- what an arrival of the code means
abbrev pub arrival_as : Code·Arrival → Arrival
arrival_as x = record { location = x.location; time = x.time; accepting = x.accepting }

-- what is judged of a chart's calls before the steps: 12, then 13 where there are not as many transitions as times or readings
unfoldable pub judged_to13 : {A : Type 0} → Chart → (counts : List ℕ) → (transitions moments : ℕ) → Answer A → Answer A
judged_to13 c counts n m x = counts_judged c counts (unless (eqb n m) 13 nowhere x)

-- these lists, with the chart's own events, which no player looks at
abbrev pub play_lists : Chart → (accepting sources targets starts test_counts timers codes constants : List ℕ) → Lists
play_lists c a s t w g j x k = lists a s t (lists_of c).events w g j x k

abbrev pub lists_played : Chart → ChartLists → Lists
lists_played c x =
    play_lists c x.accepting.now x.sources.now x.targets.now x.starts.now x.test_counts.now x.timers.now x.codes.now x.constants.now
