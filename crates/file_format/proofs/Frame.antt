-- Whether a byte is left at a place of a file.
use mathlib.Core.Path.{◌≡◌}
use mathlib.Core.Bool.{true, false}
use mathlib.Core.List.{List}
use Prim.Native.Nat.{ℕ, ◌≤◌, ◌<◌}
use lib.ListN.{length, drop, drop_of_length-le}
use lib.Seq.{drop-cons}
use Rattle.file_format.specs.Body.{is_end}

pub end_at : (s : List ℕ) (at : ℕ) → length s ≤ at → is_end (drop at s) ≡ true
end_at s at h = rw (drop_of_length-le s h)

pub more_at : (s : List ℕ) (at : ℕ) → at < length s → is_end (drop at s) ≡ false
more_at s at h = rw (drop-cons s at 0 h)
