-- What an analysis that finds a chart says and leaves, in the words of paths (document 01, "Live, born, family, board number"; document 02, P1, P3,
-- P6 and P7).
use Rattle.std.specs.Prelude.{◌≡◌, ◌↔◌, true, false, List, ℕ, suc, ◌≤◌, ◌<◌, get_or}
use Rattle.timer_set.specs.Members.{member}
use Rattle.model.specs.Chart.{Chart}
use Rattle.model.specs.Path.{Live, Reached}
use Rattle.model.specs.LiveWithin.{RoundsByPaths}
use Rattle.model.specs.Spare.{reached_part}
use Rattle.model.specs.Rewrite.{board_numbering}
use Rattle.model.specs.Plan.{Has}
use Rattle.model.specs.Floor.{most_searched}
use Rattle.sharing_plans.specs.SharingPlan.{FewestTimers, FamiliesAtMost}
use Rattle.sharing_plans.specs.CountedOnce.{CountedOnce}
use Rattle.judgement.specs.Charts.{Accepts}
use Rattle.analysis.specs.declared.Analysis.{Analysis}
use Rattle.analysis.specs.Analysing.{values_of}

-- the file holds an accepted chart, there is room, and these are its values
pub record Analysed (room : ℕ) (bs : List ℕ) (f : Analysis) : Type 0 where
  pub chart : Chart
  pub accepts : Accepts bs chart
  pub room_for : chart.locations ≤ room
  pub values_are : f ≡ values_of chart

-- the chart, which is accepted; in the list the live set of each location by paths, where at a location that no path reaches nothing is live, and the
-- rest untouched; families, plans, board numbers and rounds are those of the part of the chart that counts: searched exactly where there are at most
-- 20 families, and floor is then the smallest number of timers of any plan, else the count of the fullest live set, twins counted once; used, no
-- less than floor, is one more than the largest board number given, and 0 exactly where no timer is live at a reached location and so there is no
-- family; rounds is one more than the least k such that paths of at most k transitions decide which timers are live, and at most the number of
-- locations
pub record FoundValues (bs before after : List ℕ) (f : Analysis) : Type 0 where
  pub chart : Chart
  pub accepts : Accepts bs chart
  pub words_are : (q j : ℕ) → q < chart.locations → (member (get_or after q 0) j ≡ true) ↔ (Reached chart q × Live chart q j)
  pub beyond : (q : ℕ) → chart.locations ≤ q → get_or after q 0 ≡ get_or before q 0
  pub searched_few : (f.searched ≡ true) ↔ FamiliesAtMost most_searched (reached_part chart)
  pub floor_fewest : f.searched ≡ true → FewestTimers (reached_part chart) f.floor
  pub floor_most : (q n : ℕ) → q < chart.locations → CountedOnce (reached_part chart) q n → n ≤ f.floor
  pub floor_reached : f.searched ≡ false → (q : ℕ) × (q < chart.locations) × CountedOnce (reached_part chart) q f.floor
  pub floor_used : f.floor ≤ f.used
  pub used_above : (q j k : ℕ) → Has (board_numbering (reached_part chart)) q j k → k < f.used
  pub used_reached : (u : ℕ) → f.used ≡ suc u → (q : ℕ) × (j : ℕ) × Has (board_numbering (reached_part chart)) q j u
  pub used_none : (f.used ≡ 0) ↔ ((q j : ℕ) → Reached chart q → Live chart q j → ⊥)
  pub rounds_are : RoundsByPaths (reached_part chart) f.rounds
  pub rounds_few : f.rounds ≤ chart.locations
