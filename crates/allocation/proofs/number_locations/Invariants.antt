use mathlib.Core.Path.{◌≡◌}
use Prim.Native.Nat.{◌*◌}
use lib.ListN.{length}
use Rattle.model.specs.Family.{Pairs}
use Rattle.families.specs.Propagation.{Ends}
use Rattle.allocation.specs.Rows.{WordsAgree, held_length}
use Rattle.allocation.specs.Turns.{NumberedTo, Described, PlacedTo}
use Rattle.allocation.proofs.number_locations.Given as goal

abbrev pub invariant-loop-q : goal.invariant-loop-q
invariant-loop-q l = ((p : Pairs) × Described p l.live l.links)
    × Ends (length l.live) l.links
    × ((length l.sets ≡ length l.live) × (length l.placed ≡ length l.live) × (length l.cells ≡ 64 * length l.live) × (length l.held ≡ held_length)
    × (length l.families_at ≡ length l.live))
    × WordsAgree l.cells l.held (length l.live)
    × ((p : Pairs) → Described p l.live l.links
    → NumberedTo p (64 * l.q) l.cells l.families_at l.counts.used l.counts.families × PlacedTo p l.q l.placed)
