-- What a call that is lent a stretch of a list does to the whole.
use mathlib.Core.Path.{◌≡◌}
use mathlib.Core.List.{List, [], ◌++◌, append_assoc, append-nil}
use Prim.Native.Nat.{ℕ, ◌+◌, ◌-◌, ◌≤◌}
use native.Mathlib.Nat.{le_of_eq}
use native.Mathlib.Omega.{arith}
use lib.ListN.{length, take, drop, length-append, length-drop, drop_of_length-le}
use lib.Seq.{take_all, take-append_seam, drop-append_seam, drop-drop}
use borrow.Rule.Slice.PartMut.{mid_of, put_mid}
use Rattle.chart_lists.specs.Lists.{put}

-- what is lent from a on is all from a on
pub mid_all : (a : ℕ) (l : List ℕ) → mid_of a (length l - a) l ≡ drop a l
mid_all a l = take_all (length l - a) (drop a l) (le_of_eq (length-drop a l))

-- a part from a on that comes back as ys
mid_back : (a : ℕ) (l ys : List ℕ) → put_mid a (length l - a) l ys ≡ take a l ++ ys
mid_back a l ys = let e : drop (length l - a) (drop a l) ≡ [] = drop_of_length-le (drop a l) (le_of_eq (length-drop a l)) in rw (e, append-nil)

-- ys over what stands after xs
put_after : (xs ys l : List ℕ) → take (length xs) (put xs l) ++ put ys (drop (length xs) (put xs l)) ≡ put (xs ++ ys) l
unfolding put
put_after xs ys l = rw (take-append_seam, drop-append_seam, drop-drop, append_assoc, length-append)

-- xs stands at the front of l, and a call writes ys after it
pub put_part : (xs ys l out last : List ℕ) (a : ℕ) → a ≡ length xs → out ≡ put xs l → last ≡ put ys (mid_of a (length out - a) out)
    → put_mid a (length out - a) out last ≡ put (xs ++ ys) l
put_part xs ys l out last a ea eo el = rw (mid_back, el, mid_all, ea, eo) (put_after xs ys l)

-- room for n from a on
pub mid_room : (a : ℕ) (l : List ℕ) (n : ℕ) → a + n ≤ length l → n ≤ length (mid_of a (length l - a) l)
mid_room a l n h = rw (mid_all, length-drop) (omega arith)
