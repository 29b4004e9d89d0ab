use Prim.Native.Nat.{ℕ}
use Rattle.twins.specs.LowestTwins.{lowest_at, LowestListed}
use Rattle.twins.proofs.Merging.{MergedTo}
use Rattle.twins.proofs.LowestTwins.merged_set.Given as goal

abbrev pub invariant-loop-j : goal.invariant-loop-j
invariant-loop-j l = LowestListed l.j-iterator.left.bits l.self.lowest.now
    × ((w : ℕ) → MergedTo (lowest_at l.self.lowest.now) w l.initial.j-iterator.left.bits l.initial.merged.bits
    → MergedTo (lowest_at l.self.lowest.now) w l.j-iterator.left.bits l.merged.bits)
