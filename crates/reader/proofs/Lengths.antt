-- Whether nine lists have room, found list by list.
use mathlib.Core.Path.{◌≡◌}
use lib.ListN.{length, length-map}
use Rattle.model.specs.Chart.{Chart}
use Rattle.chart_lists.specs.Lists.{Lists, lists_of, room_for, all_tests}
use Rattle.reader.specs.Parts.{enough}

-- the room that the code judges is the definition's
pub room_is : (c : Chart) (l : Lists)
    → enough (length c.accepting) (length c.transitions) (length (all_tests c.transitions))
    (length l.accepting) (length l.sources) (length l.targets) (length l.events) (length l.starts) (length l.test_counts)
    (length l.timers) (length l.codes) (length l.constants)
    ≡ room_for (lists_of c) l
unfolding enough room_for lists_of
room_is c l = simp length-map
