-- The floor of a chart (document 01, "Live, born, family, board number"; document 02, P1 and P6).
use Rattle.std.specs.Prelude.{Bool, true, false, ℕ, leb, length}
use Rattle.model.specs.Chart.{Chart}
use Rattle.model.specs.Live.{fullest}
use Rattle.model.specs.Twins.{merged_sets}
use Rattle.model.specs.Family.{families, live_pairs}
use Rattle.model.specs.SmallestPlan.{fewest}

-- up to so many families the floor is the smallest number of timers in any plan
abbrev pub most_searched : ℕ
most_searched = 20

-- whether the chart has at most so many families
unfoldable pub searched : Chart → Bool
searched c = leb (length (families (live_pairs c))) most_searched

-- floor: the fewest timers of any plan; with more families the fullest live set, twins counted once, which the program calls `seen`
unfoldable pub floor : Chart → ℕ
floor c = elim (searched c) [ true ↦ fewest (families (live_pairs c)) | false ↦ fullest (merged_sets c) ]
