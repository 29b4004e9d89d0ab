-- Bytes that are put piece by piece, each piece into the part after the last, are put whole.
use mathlib.Core.Path.{◌≡◌, refl, sym, ap, ◌∙◌}
use mathlib.Core.List.{List, [], ◌∷◌, ◌++◌}
use Prim.Native.Nat.{ℕ, ◌+◌, ◌-◌, ◌≤◌, ◌<◌}
use native.Mathlib.Omega.{arith}
use lib.ListN.{length, drop, set, length-append}
use borrow.Rule.Slice.PartMut.{mid_of, put_mid}
use Rattle.chart_lists.specs.Lists.{put}
use Rattle.chart_lists.proofs.Put.{put_nil, length_put, put_last}
use Rattle.chart_lists.proofs.Part.{put_part, mid_room}
use Rattle.listing.specs.PutBytes.{PutBytes}

module _ {xs l out : List ℕ} {a : ℕ} (w : PutBytes xs l out a) where
  -- a call puts more after them
  pub bytes_next : {ys last : List ℕ} {b : ℕ} → PutBytes ys (mid_of a (length out - a) out) last b
      → PutBytes (xs ++ ys) l (put_mid a (length out - a) out last) (a + b)
  bytes_next {ys} {last} {b} v = record {
    size_is = rw length-append (omega (arith, w.size_is, v.size_is));
    bytes_are = put_part xs ys l out last a w.size_is w.bytes_are v.bytes_are;
  }

  -- a byte is stored after them
  pub bytes_more : (v : ℕ) → a < length l → PutBytes (xs ++ (v ∷ [])) l (set out a v) (a + 1)
  bytes_more v h = record {
    size_is = rw length-append (omega (arith, w.size_is));
    bytes_are = put_last xs l v h (sym w.size_is) w.bytes_are;
  }

  pub bytes_as : {ys : List ℕ} → xs ≡ ys → PutBytes ys l out a
  bytes_as e = rw e at w

  -- the part is as long as it was
  pub bytes_long : length xs ≤ length l → length out ≡ length l
  bytes_long h = ap length w.bytes_are ∙ length_put xs l h

  long : a ≤ length l → length out ≡ length l
  long h = bytes_long (omega (arith, w.size_is))

  pub bytes_below : a < length l → a < length out
  bytes_below h = omega (arith, long (omega arith))

  pub bytes_within : a ≤ length l → a ≤ length out
  bytes_within h = omega (arith, long h)

  -- room for n in the part after them
  pub bytes_room : (n : ℕ) → a + n ≤ length l → n ≤ length (mid_of a (length out - a) out)
  bytes_room n h = mid_room a out n (omega (arith, long (omega arith)))

  -- the part holds them
  pub bytes_cover : a ≤ length out
  unfolding put
  bytes_cover = omega (arith, w.size_is, ap length w.bytes_are ∙ length-append xs (drop (length xs) l))

-- nothing is put
pub bytes_none : (l : List ℕ) → PutBytes [] l l 0
bytes_none l = record { size_is = refl; bytes_are = sym (put_nil l) }

-- a list is copied to the front
pub bytes_copied : {xs front : List ℕ} (l : List ℕ) → front ≡ xs → PutBytes xs l (front ++ drop (length xs) l) (length xs)
unfolding put
bytes_copied l e = record { size_is = refl; bytes_are = rw e }
