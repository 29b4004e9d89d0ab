-- A loop that puts item after item into a lent list, each into its own stretch behind the last.
use mathlib.Core.Path.{◌≡◌, refl, sym, ap, ◌∙◌}
use mathlib.Core.List.{List, ◌++◌}
use Prim.Native.Nat.{ℕ, ◌+◌, ◌-◌, ◌*◌, ◌≤◌, ◌<◌}
use native.Mathlib.Omega.{arith}
use lib.ListN.{length, length-append}
use borrow.Rule.Slice.PartMut.{mid_of, put_mid, same_len_mid}
use Rattle.lists.specs.Lists.{gather}
use Rattle.lists.proofs.Growing.{gather_next, gather_mono, gather_length}
use Rattle.chart_lists.specs.Lists.{put}
use Rattle.chart_lists.proofs.Put.{put_nil}
use Rattle.chart_lists.proofs.Part.{put_part}

-- k of n items stand over the front of l, which has become out; the next goes to place at
pub record PutLoop (item : ℕ → List ℕ) (n : ℕ) (l out : List ℕ) (at k : ℕ) : Type 0 where
  pub most : k ≤ n
  pub place : at ≡ length (gather item k)
  pub long : length out ≡ length l
  pub is : out ≡ put (gather item k) l

pub put_loop_first : (item : ℕ → List ℕ) (n : ℕ) (l : List ℕ) → PutLoop item n l l 0 0
unfolding gather
put_loop_first item n l = record { most = omega arith; place = refl; long = refl; is = sym (put_nil l) }

module _ {item : ℕ → List ℕ} {n : ℕ} {l out : List ℕ} {at k : ℕ} (h : PutLoop item n l out at k) where
  -- all are written
  module _ (m : n ≤ k) where
    all : n ≡ k
    all = omega (arith, h.most)

    pub put_loop_done : out ≡ put (gather item n) l
    put_loop_done = rw all h.is

    pub put_loop_size : at ≡ length (gather item n)
    put_loop_size = rw all h.place

  module _ (m : k < n) where
    -- there is room for the next item if there is for all
    pub put_loop_room : length (gather item n) ≤ length l → at + length (item k) ≤ length out
    put_loop_room r =
        let e = ap length (gather_next item k) ∙ length-append (gather item k) (item k) in
        omega (arith, h.place, h.long, gather_mono item (k + 1) n (omega arith), e)

    -- the next item is xs, and a call has put it into the list from at on
    pub put_loop_again : {xs last : List ℕ} {at' : ℕ} → item k ≡ xs → last ≡ put xs (mid_of at (length out - at) out)
        → length last ≡ length (mid_of at (length out - at) out) → at' ≡ at + length xs
        → PutLoop item n l (put_mid at (length out - at) out last) at' (k + 1)
    put_loop_again {xs} {last} {at'} i e s p =
        let g : gather item (k + 1) ≡ gather item k ++ xs = gather_next item k ∙ rw i in
        record {
          most = omega arith;
          place = rw (g, length-append) (omega (arith, h.place));
          long = same_len_mid at (length out - at) out last s ∙ h.long;
          is = rw g (put_part (gather item k) xs l out last at h.place h.is e);
        }

    -- items that are all w long
    pub put_loop_even : (w : ℕ) → ((i : ℕ) → length (item i) ≡ w) → w * n ≤ length l → at + w ≤ length out
    put_loop_even w even r = omega (arith, put_loop_room (rw (gather_length item w even n) r), even k)
