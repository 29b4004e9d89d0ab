-- `push`: a location that is idle gets the next place of the list.
use mathlib.Core.Path.{refl}
use native.Mathlib.Omega.{arith}
use Rattle.worklist.proofs.Waiting.{push_same, push_room, push_more}
use Rattle.worklist.proofs.push.Goals as goal

pub returns-then-idle-q-eq0 : goal.returns-then-idle-q-eq0
returns-then-idle-q-eq0 c = record { idle = push_same c.requires.2 _ c.requires.1 c.if-idle-q-eq0.true; worklist = (λ m l x. x); more = omega arith }

pub bounds-waiting-depth : goal.bounds-waiting-depth
bounds-waiting-depth c = push_room c.requires.2 _ c.requires.1 c.if-idle-q-eq0.false

pub returns : goal.returns
returns c = record { idle = refl; worklist = (λ m l x. push_more x _ l c.if-idle-q-eq0.false); more = omega arith }
