use mathlib.Core.Path.{◌≡◌}
use Prim.Native.Nat.{ℕ, ◌<◌}
use Rattle.model.specs.Twins.{lowest_in_same}
use Rattle.twins.specs.LowestTwins.{lowest_at}
use Rattle.twins.specs.LowestTwins.{own_below}
use Rattle.twins.proofs.lowest_twins.Given as goal

abbrev pub invariant-loop-j : goal.invariant-loop-j
invariant-loop-j l = ((k : ℕ) → k < l.j → lowest_at l.lowest k ≡ lowest_in_same l.starts l.timers k)
    × (l.own.bits ≡ own_below l.starts l.timers l.j)
