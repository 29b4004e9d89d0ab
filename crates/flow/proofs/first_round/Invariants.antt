use mathlib.Core.Path.{◌≡◌}
use mathlib.Core.List.{List}
use Prim.Native.Nat.{ℕ}
use lib.ListN.{length, replicate}
use Rattle.model.proofs.Edges.{round_to}
use Rattle.flow.specs.Edges.{flow_of}
use Rattle.flow.proofs.first_round.Given as goal

abbrev pub invariant-loop-q : goal.invariant-loop-q
invariant-loop-q l = (length l.after ≡ length l.own)
    × ((from cut : List ℕ) → l.after ≡ round_to (flow_of l.into from cut l.gain l.own) (replicate (length l.own) 0) (length l.yielded))
