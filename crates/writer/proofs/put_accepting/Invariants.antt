use Prim.Native.Nat.{◌*◌}
use lib.ListN.{get_or}
use Rattle.file_format.specs.Parse.{digits}
use Rattle.chart_lists.proofs.PutLoop.{PutLoop}
use Rattle.writer.proofs.put_accepting.Given as goal

abbrev pub invariant-loop-i : goal.invariant-loop-i
invariant-loop-i l = PutLoop (λ i. digits 2 (get_or l.accepting i 0)) l.n l.initial.out l.out (2 * l.i) l.i
