use Rattle.renaming.specs.Renaming.{RenamedTo}
use Rattle.renaming.proofs.renamed_set.Given as goal

abbrev pub invariant-loop-j : goal.invariant-loop-j
invariant-loop-j l = RenamedTo l.cells l.q l.initial.j-iterator.left.bits l.j-iterator.left.bits l.renamed.bits
