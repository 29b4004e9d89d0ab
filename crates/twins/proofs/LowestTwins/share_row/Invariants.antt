use Rattle.twins.specs.Shared.{RowShared}
use Rattle.twins.proofs.LowestTwins.share_row.Given as goal

abbrev pub invariant-loop-j : goal.invariant-loop-j
invariant-loop-j l = RowShared l.set.bits l.self.lowest.now l.q l.initial.cells l.j l.cells
