use mathlib.Core.Path.{◌≡◌}
use mathlib.Core.List.{map}
use lib.ListN.{take}
use Rattle.timer_set.specs.Members.{image}
use Rattle.twins.specs.LowestTwins.{lowest_at}
use Rattle.twins.proofs.LowestTwins.merge_sets.Given as goal

abbrev pub invariant-loop-q : goal.invariant-loop-q
invariant-loop-q l = take l.q l.merged ≡ map (image (lowest_at l.self.lowest.now)) (take l.q l.live)
