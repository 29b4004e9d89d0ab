use Rattle.chart_lists.proofs.PutLoop.{PutLoop}
use Rattle.listing.specs.Cells.{entry_in}
use Rattle.listing.proofs.lines.put_entries.Given as goal

abbrev pub invariant-loop-j : goal.invariant-loop-j
invariant-loop-j l = PutLoop (entry_in l.cells l.base) l.timers l.initial.out l.out l.at l.j
