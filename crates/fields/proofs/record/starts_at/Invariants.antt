use Rattle.fields.proofs.StartsLoop.{Starting}
use Rattle.fields.proofs.record.starts_at.Given as goal

abbrev pub invariant-loop-k : goal.invariant-loop-k
invariant-loop-k l = Starting l.timers l.place l.s l.at l.n l.set.bits l.lowest l.here l._k
