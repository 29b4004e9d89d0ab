-- `lowest_to_take` tries the transitions one after another, from the lowest on.
use native.Mathlib.Omega.{arith}
use Rattle.serving.proofs.Choosing.{none_yet, none_more, found_here, found_none}
use Rattle.serving.proofs.lowest_to_take.Goals as goal

pub loop-i-init : goal.loop-i-init
loop-i-init c = λ ch n f h x t at v. none_yet ch x _ t

pub can_take-requires : goal.can_take-requires
can_take-requires c =
    let q = c.requires.n_value in
    record { i_in_bounds = (q.0, omega (arith, q.1), q.2, q.3); counts_len = c.requires.counts_len }

pub returns-then-can_take-clause-lowest : goal.returns-then-can_take-clause-lowest
returns-then-can_take-clause-lowest c = λ ch n f h x t at v.
    found_here ch x _ t c.loop-i.i (c.loop-i.invariant ch n f h x t at v) (λ r m. c.can_take.ensures ch f h r m x t at v) n
    (omega arith) c.if-can_take.true

pub loop-i-preserved : goal.loop-i-preserved
loop-i-preserved c = λ ch n f h x t at v.
    none_more ch x _ t c.loop-i.i (c.loop-i.invariant ch n f h x t at v) (λ r m. c.can_take.ensures ch f h r m x t at v) c.if-can_take.false

pub returns-clause-lowest : goal.returns-clause-lowest
returns-clause-lowest c = λ ch n f h x t at v.
    found_none ch x _ t c.loop-i.i (c.loop-i.invariant ch n f h x t at v) n (omega arith)
