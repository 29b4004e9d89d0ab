use Prim.Native.Nat.{◌+◌, ◌*◌}
use Rattle.model.specs.Version.{width_of}
use Rattle.chart_lists.specs.Stored.{lists_in}
use Rattle.writer.specs.Bytes.{test_at}
use Rattle.chart_lists.proofs.PutLoop.{PutLoop}
use Rattle.writer.proofs.records.put_tests.Given as goal

abbrev pub invariant-loop-t : goal.invariant-loop-t
invariant-loop-t l =
    PutLoop (λ t. test_at (width_of l.version) (lists_in l.lists) (l.k + t)) l.g l.initial.out l.out (l.size * l.t) l.t
