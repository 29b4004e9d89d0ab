-- `set_of` puts the timers into a set one after another.
use mathlib.Core.Path.{◌≡◌, refl, ap, ◌∙◌}
use Prim.Native.Nat.{ℕ}
use native.Mathlib.Omega.{arith}
use lib.ListN.{length, get_or}
use lib.Seq.{take-length}
use Rattle.timer_set.specs.Members.{added, set_of}
use Rattle.judgement.proofs.Tested.{set_more}
use Rattle.judgement.proofs.set_of.Goals as goal

pub loop-timer-init : goal.loop-timer-init
unfolding set_of
loop-timer-init c = refl

pub with-set-requires : goal.with-set-requires
with-set-requires c = c.requires _ (omega arith)

pub loop-timer-preserved : goal.loop-timer-preserved
loop-timer-preserved c =
    let more = ap (λ (w : ℕ). added w (get_or c.args.timers.now c.loop-timer.timer-index 0)) c.loop-timer.invariant in
    (c.with-set.ensures ∙ more) ∙ set_more c.args.timers.now c.loop-timer.timer-index (omega arith)

pub returns : goal.returns
returns c = let e : c.loop-timer.timer-index ≡ length c.args.timers.now = omega arith in
    rw (e, take-length) at c.loop-timer.invariant
