-- What a file that is read into lists answers, and the room that it needs.
use Rattle.std.specs.Prelude.{◌≡◌, true, List, ℕ, ◌≤◌, length}
use Rattle.model.specs.Answer.{Answer, returned, then}
use Rattle.model.specs.Chart.{Chart}
use Rattle.file_format.specs.File.{chart_in}
use Rattle.chart_lists.specs.Limits.{most_locations, most_transitions, most_tests}
use Rattle.chart_lists.specs.Lists.{Lists, lists_of, room_for}
use Rattle.chart_lists.specs.declared.Header.{Header}
use Rattle.chart_lists.specs.Header.{header_of}

-- the header of a file's chart, or the file's refusal, 1 to 8
unfoldable pub header_read : List ℕ → Answer Header
header_read bs = then (chart_in bs) (λ c. returned (header_of c))

-- lists that have room for every chart
pub record LargestLists (l : Lists) : Type 0 where
  pub accepting : most_locations ≤ length l.accepting
  pub sources : most_transitions ≤ length l.sources
  pub targets : most_transitions ≤ length l.targets
  pub events : most_transitions ≤ length l.events
  pub starts : most_transitions ≤ length l.starts
  pub test_counts : most_transitions ≤ length l.test_counts
  pub timers : most_tests ≤ length l.timers
  pub codes : most_tests ≤ length l.codes
  pub constants : most_tests ≤ length l.constants

-- what is asked of the lists: room for every chart, or for the file's own
pub data RoomToFill (bs : List ℕ) (l : Lists) : Type 0 where
  for_every : LargestLists l → RoomToFill bs l
  for_this : (c : Chart) → chart_in bs ≡ returned c → room_for (lists_of c) l ≡ true → RoomToFill bs l
