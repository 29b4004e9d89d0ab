-- `lowest_free` meets its contract: the numbers below 64 w are all taken.
use native.Mathlib.Omega.{arith}
use Rattle.allocation.specs.Rows.{taken}
use Rattle.allocation.proofs.Rows.{word_found, word_full, all_full}
use Rattle.allocation.proofs.family.Family.lowest_free.Goals as goal

pub returns-then-low-lt64 : goal.returns-then-low-lt64
returns-then-low-lt64 c = rw c.lowest_missing-low.ensures
    (word_found (λ k. taken c.args.self.sets.now c.args.cells.now c.args.self.timer k) c.taken_word.result.bits c.loop-w.w c.taken_word.ensures
    c.loop-w.invariant.1
    (omega (arith, c.lowest_missing-low.ensures, c.if-low-lt64.true))
    (omega (arith, c.loop-w-test.true)))

pub loop-w-preserved : goal.loop-w-preserved
loop-w-preserved c = (
  c.loop-w.invariant.0,
  word_full (λ k. taken c.args.self.sets.now c.args.cells.now c.args.self.timer k) c.taken_word.result.bits c.loop-w.w
      c.taken_word.ensures c.loop-w.invariant.1 (omega (arith, c.lowest_missing-low.ensures)),
)

pub returns : goal.returns
returns c = all_full (λ k. taken c.args.self.sets.now c.args.cells.now c.args.self.timer k) (λ k h. c.loop-w.invariant.1 k (omega arith))
