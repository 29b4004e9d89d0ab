-- The length of the array is known by a law, since to compute it takes too long.
use mathlib.Core.Path.{sym}
use Prim.Native.Nat.{ℕ}
use lib.ListN.{length-replicate}
use Rattle.vectors.proofs.main.Goals as goal

pub slice_bounds-read_full-end : goal.slice_bounds-read_full-end
slice_bounds-read_full-end c = sym (length-replicate {A = ℕ} _ 0)

pub slice_bounds-bytes-end : goal.slice_bounds-bytes-end
slice_bounds-bytes-end c = c.read_full-n.ensures.0

pub slice_bounds-run-end : goal.slice_bounds-run-end
slice_bounds-run-end c = c.read_full-n.ensures.1
