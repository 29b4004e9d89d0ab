-- `lowest_in_same` meets its contract: the timers that are left are in the same sets as timer j, of those gone over.
use mathlib.Core.Path.{sym, ◌∙◌}
use Prim.Native.Nat.{◌+◌}
use native.Mathlib.Omega.{arith}
use Rattle.twins.proofs.Alike.{Alike, alike_first, alike_next, alike_own, alike_all, alike_low}
use Rattle.twins.proofs.lowest_in_same.Goals as goal

pub loop-bits-init : goal.loop-bits-init
loop-bits-init c = alike_first _ _ c.requires

pub returns-then-lowest-j : goal.returns-then-lowest-j
returns-then-lowest-j c = let next : Alike c.args.sets.now c.args.j (c.loop-bits.bits-index + 1) c.narrow-alike.result.bits =
    rw c.narrow-alike.ensures (alike_next _ _ c.loop-bits.invariant (omega arith)) in
    alike_own _ _ next (sym c.lowest.ensures ∙ c.if-lowest-j.true)

pub loop-bits-preserved : goal.loop-bits-preserved
loop-bits-preserved c = rw c.narrow-alike.ensures (alike_next _ _ c.loop-bits.invariant (omega arith))

pub overflow_cast-result : goal.overflow_cast-result
overflow_cast-result c = record { fits = omega (arith, c.lowest-2.ensures, alike_low _ _ c.loop-bits.invariant) }

pub returns : goal.returns
returns c = λ n h. c.lowest-2.ensures ∙ alike_all _ _ c.loop-bits.invariant (omega arith) (omega arith) n h
