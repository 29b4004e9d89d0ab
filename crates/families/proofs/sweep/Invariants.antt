use Rattle.std.specs.Prelude.{◌≡◌, length, is_some, unwrap_or}
use Rattle.families.specs.Propagation.{Swept, EmptyFrom}
use Rattle.families.proofs.sweep.Given as goal

abbrev pub invariant-loop-link : goal.invariant-loop-link
invariant-loop-link l =
    (length l.sets ≡ length l.initial.sets) × Swept l.links l.link-index l.initial.sets l.sets (is_some l.grown)
    × EmptyFrom (unwrap_or l.grown l.end) l.sets
