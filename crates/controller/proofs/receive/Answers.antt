-- `receive` judges 26, 15 and 23. The laws take the code's tests as they are.
use mathlib.Core.Path.{◌≡◌}
use Prim.Native.Nat.{◌<◌}
use native.Mathlib.Omega.{arith}
use Rattle.controller_model.specs.Controlling.{receive}
use Rattle.controller.proofs.Events.{no_such_head, one_waits, too_late, too_early, waits_now}
use Rattle.controller.proofs.receive.Goals as goal

pub returns-then-from-n : goal.returns-then-from-n
returns-then-from-n c =
    let r = no_such_head c.args.state.now c.args.n c.args.head c.args.event c.args.time (omega (arith, c.from.ensures, c.if-from-n.true)) in
    record { answer = r.0; state = r.1 }

pub returns-then-own-ne0 : goal.returns-then-own-ne0
returns-then-own-ne0 c =
    let b : c.args.head < c.args.n = omega (arith, c.from.ensures, c.if-from-n.false) in
    let r = one_waits _ _ _ _ _ b c.if-own-ne0.true in
    record { answer = r.0; state = r.1 }

pub returns-then-time-gt-LARGEST_TIME : goal.returns-then-time-gt-LARGEST_TIME
returns-then-time-gt-LARGEST_TIME c =
    let b : c.args.head < c.args.n = omega (arith, c.from.ensures, c.if-from-n.false) in
    let r = too_late _ _ _ _ _ b c.if-own-ne0.false c.if-time-gt-LARGEST_TIME.true in
    record { answer = r.0; state = r.1 }

pub returns-then-time-own : goal.returns-then-time-own
returns-then-time-own c =
    let b : c.args.head < c.args.n = omega (arith, c.from.ensures, c.if-from-n.false) in
    let r = too_early _ _ _ _ _ b c.if-own-ne0.false c.if-time-gt-LARGEST_TIME.false c.if-time-own.true in
    record { answer = r.0; state = r.1 }

pub returns : goal.returns
unfolding receive
returns c =
    let b : c.args.head < c.args.n = omega (arith, c.from.ensures, c.if-from-n.false) in
    let e : c.from-2.result ≡ c.args.event = c.from-2.ensures in
    let r = waits_now c.args.state.now c.args.n c.args.head c.args.event c.args.time
    b c.if-own-ne0.false c.if-time-gt-LARGEST_TIME.false c.if-time-own.false in
    record { answer = r.0; state = rw e r.1 }
