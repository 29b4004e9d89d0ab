-- Entries of a list that move up within it, and what is read behind those that are written over.
use mathlib.Core.Path.{◌≡◌, sym, ap, ◌∙◌}
use mathlib.Core.List.{List, [], ◌∷◌, ◌++◌, map, append_assoc}
use Prim.Native.Nat.{ℕ, ◌+◌, ◌-◌, ◌≤◌, ◌<◌}
use native.Mathlib.Omega.{arith}
use lib.ListN.{length, get_or, take, drop, set, length-append, length-take, length-drop, length-map}
use lib.Seq.{get_or-drop, get_or-append-add, drop-append-add, drop-drop, set-get_or}
use Rattle.std.specs.List.{copy_within}
use Rattle.chart_lists.specs.Lists.{put}
use Rattle.chart_lists.proofs.Put.{take_put, put_put, put_next}
use Rattle.spare.specs.Cleared.{moved}

-- ---- behind what is put over the front

module _ (xs l : List ℕ) {j : ℕ} (h : length xs ≤ j) where
  gap : j ≡ length xs + (j - length xs)
  gap = omega arith

  pub get_d_past : get_or (put xs l) j 0 ≡ get_or l j 0
  unfolding put
  get_d_past = rw (gap, get_or-append-add, get_or-drop)

  pub drop_past : drop j (put xs l) ≡ drop j l
  unfolding put
  drop_past = rw (gap, drop-append-add, drop-drop)

-- the next item's number stands behind those of the items that are done already
pub put_stays : {A : Type 0} (f : A → ℕ) (done : List A) (a : A) (l : List ℕ) {out : List ℕ} {k : ℕ} → k < length l → length done ≡ k
    → out ≡ put (map f done) l → get_or l k 0 ≡ f a → out ≡ put (map f (done ++ (a ∷ []))) l
put_stays f done a l {out} {k} h e o g =
    let long : length (map f done) ≤ k = omega (arith, length-map done f) in
    let same : get_or out k 0 ≡ f a = ap (λ (t : List ℕ). get_or t k 0) o ∙ get_d_past (map f done) l long ∙ g in
    sym (set-get_or out k 0) ∙ ap (set out k) same ∙ put_next f done a l h e o

-- ---- entries that move up

-- as the library's method moves them
pub moved_within : (from to n : ℕ) (l : List ℕ) → to ≤ from → from + n ≤ length l → copy_within l from (from + n) to ≡ moved from to n l
unfolding moved put
moved_within from to n l up h =
    let many : (from + n) - from ≡ n = omega arith in
    let long : length (take to l ++ take n (drop from l)) ≡ to + n = simp (length-append, length-take, length-drop) (omega arith) in
    rw (many, long, append_assoc)

-- behind what is put over the front
pub moved_after : (from to : ℕ) → to ≤ from → (l done : List ℕ) (n : ℕ) {out : List ℕ} → length done ≡ to → out ≡ put done l
    → moved from to n out ≡ put (done ++ take n (drop from l)) l
unfolding moved
moved_after from to up l done n e o =
    let past : length done ≤ from = omega arith in
    rw (o, take_put done l to e, drop_past done l past) (put_put done (take n (drop from l)) l)
