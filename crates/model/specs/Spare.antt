-- Spare locations (document 02, P7; its own word): those that no path from the initial location reaches, as 9 means it. Which part of a chart counts,
-- and what becomes of transitions that leave a spare location. Where every location is reached both are the chart itself (proofs/ReachedPart,
-- proofs/SpareCleared).
use Rattle.std.specs.Prelude.{Bool, true, false, not, List, [], map, ℕ, get_or}
use Rattle.lists.specs.Lists.{filtered}
use Rattle.model.specs.Chart.{Transition, Chart}
use Rattle.model.specs.Live.{reached_sets, is_empty}

-- the transition leaves a reached location, one whose set is not empty
unfoldable pub leaves_reached : (reached : List ℕ) → Transition → Bool
leaves_reached reached r = not (is_empty (get_or reached r.source 0))

-- The part of a chart that counts: all its locations, and the transitions that leave a reached one. Live timers, rounds, twins, families and board
-- numbers are those of this part, in which a spare location has no transition, so that no path leaves it.
unfoldable pub reached_part : Chart → Chart
reached_part c = let reached = reached_sets c in record {
  version = c.version;
  locations = c.locations;
  initial = c.initial;
  timers = c.timers;
  accepting = c.accepting;
  transitions = filtered (leaves_reached reached) c.transitions;
}

-- a transition with its ends and its event alone
abbrev pub bare : Transition → Transition
bare r = record { source = r.source; target = r.target; event = r.event; starts = []; tests = [] }

-- the transition as it is, or without starts and tests
abbrev pub bare_unless : Bool → Transition → Transition
bare_unless true r = r
bare_unless false r = bare r

-- the chart with every transition; one that leaves a spare location has no tests and no starts. This is what the rewriting rewrites
unfoldable pub spare_cleared : Chart → Chart
spare_cleared c = let reached = reached_sets c in record {
  version = c.version;
  locations = c.locations;
  initial = c.initial;
  timers = c.timers;
  accepting = c.accepting;
  transitions = map (λ r. bare_unless (leaves_reached reached r) r) c.transitions;
}
