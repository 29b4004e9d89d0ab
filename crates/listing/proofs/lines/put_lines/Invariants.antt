use Rattle.chart_lists.proofs.PutLoop.{PutLoop}
use Rattle.listing.specs.Cells.{line_in}
use Rattle.listing.proofs.lines.put_lines.Given as goal

abbrev pub invariant-loop-q : goal.invariant-loop-q
invariant-loop-q l = PutLoop (line_in l.cells l.timers) l.n l.initial.out l.out l.at l.q
