use mathlib.Core.Path.{◌≡◌}
use lib.ListN.{take}
use Rattle.renaming.specs.Renaming.{renamed_row}
use Rattle.renaming.proofs.rename_row.Given as goal

abbrev pub invariant-loop-k : goal.invariant-loop-k
invariant-loop-k l = take l.k l.renamed ≡ renamed_row l.cells l.q (take l.k l.timers)
