use Rattle.twins.proofs.Sharing.{SharedTo}
use Rattle.twins.proofs.LowestTwins.share_numbers.Given as goal

abbrev pub invariant-loop-q : goal.invariant-loop-q
invariant-loop-q l = SharedTo l.live l.self.lowest.now l.initial.cells l.q l.cells
