-- A list that is copied over the front of a lent one, an entry at a time.
use mathlib.Core.Path.{◌≡◌, refl, sym, ap, ◌∙◌}
use mathlib.Core.List.{List}
use Prim.Native.Nat.{ℕ, ◌+◌, ◌≤◌, ◌<◌}
use native.Mathlib.Omega.{arith}
use native.Mathlib.Numerals.{add-one}
use lib.ListN.{length, get_or, take, set, length-set}
use lib.Seq.{take-suc, take_all, length-take-le}
use Rattle.chart_lists.specs.Lists.{put}
use Rattle.chart_lists.proofs.Put.{put_nil, put_last}

-- k entries of xs stand over the front of l, which has become out
pub record Copied (xs l out : List ℕ) (k : ℕ) : Type 0 where
  pub most : k ≤ length xs
  pub long : length out ≡ length l
  pub is : out ≡ put (take k xs) l

pub copied_none : (xs l : List ℕ) → Copied xs l l 0
copied_none xs l = record { most = omega arith; long = refl; is = sym (put_nil l) }

module _ {xs l out : List ℕ} {k : ℕ} (h : Copied xs l out k) where
  -- one more
  pub copied_more : k < length xs → length xs ≤ length l → Copied xs l (set out k (get_or xs k 0)) (k + 1)
  copied_more m r = record {
    most = omega arith;
    long = length-set out k _ ∙ h.long;
    is =
        rw (add-one, take-suc xs k 0)
        (put_last (take k xs) l (get_or xs k 0) (omega arith) (length-take-le k xs h.most) h.is);
  }

  pub copied_all : length xs ≤ k → out ≡ put xs l
  copied_all m = h.is ∙ ap (λ (ys : List ℕ). put ys l) (take_all k xs m)
