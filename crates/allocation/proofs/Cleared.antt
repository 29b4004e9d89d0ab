-- Cleared arrays: what the loop over the locations begins with.
use mathlib.Core.Path.{◌≡◌}
use mathlib.Core.List.{List}
use Prim.Native.Nat.{ℕ, ◌*◌, ◌≤◌, ◌<◌}
use native.Mathlib.Omega.{arith}
use lib.ListN.{length, get_or, take, replicate, length-replicate}
use Rattle.std.proofs.lemmas.List.{get_or-replicate}
use lib.Seq.{length-take-le}
use Rattle.lists.proofs.Zeros.{get_d_zeros, take_zeros}
use Rattle.allocation.specs.Cells.{no_number}
use Rattle.allocation.specs.Turns.{Fresh}
use Rattle.allocation.specs.Rows.{held_length}
use Rattle.chart_lists.specs.Limits.{most_locations}

-- a list filled with one number
pub filled : {l : List ℕ} {m : ℕ} (n v : ℕ) → l ≡ replicate n v → n ≡ m → (x : ℕ) → x < m → get_or l x 0 ≡ v
filled n v e long x h = rw e (get_or-replicate n x v 0 (omega arith))

pub front_length : (m : ℕ) → m ≤ most_locations → length {A = ℕ} (take m (replicate most_locations 0)) ≡ m
front_length m h = length-take-le m (replicate {A = ℕ} most_locations 0) (omega (arith, length-replicate {A = ℕ} most_locations 0))

pub fresh : (live cells at : List ℕ) → length live ≤ most_locations → length cells ≡ 64 * length live
    → ((x : ℕ) → x < 64 * length live → get_or cells x 0 ≡ no_number) → length at ≡ length live → ((s : ℕ) → get_or at s 0 ≡ 0)
    → Fresh live (take (length live) (replicate most_locations 0)) (take (length live) (replicate most_locations 0)) cells
    (replicate held_length 0) at
fresh live cells at few long unnumbered at_long none_at = record {
  sets_long = front_length (length live) few;
  placed_long = front_length (length live) few;
  cells_long = long;
  held_long = length-replicate {A = ℕ} held_length 0;
  at_long = at_long;
  none_placed = λ s. rw (take_zeros (length live) most_locations few) (get_d_zeros (length live) s);
  none_held = get_d_zeros held_length;
  none_at = none_at;
  none_numbered = unnumbered;
}
