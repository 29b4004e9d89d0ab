-- A list that is put over the front of a lent one grows by stores, one after another.
use mathlib.Core.Path.{◌≡◌, refl, ◌∙◌}
use mathlib.Core.List.{List, [], ◌∷◌, ◌++◌, map, map-append, append_assoc}
use Prim.Native.Nat.{ℕ, ◌≤◌, ◌<◌}
use native.Mathlib.Numerals.{add-one}
use native.Mathlib.Omega.{arith}
use lib.ListN.{length, take, drop, set, length-append, length-drop, length-map}
use lib.Seq.{drop-cons, drop-drop, drop-append_seam, set-append_seam, take_at}
use Rattle.chart_lists.specs.Lists.{put}

pub put_nil : (l : List ℕ) → put [] l ≡ l
unfolding put
put_nil l = refl

pub length_put : (xs l : List ℕ) → length xs ≤ length l → length (put xs l) ≡ length l
unfolding put
length_put xs l h = simp (length-append, length-drop) (omega arith)

pub take_put : (xs l : List ℕ) (n : ℕ) → length xs ≡ n → take n (put xs l) ≡ xs
unfolding put
take_put xs l n e = take_at xs (drop (length xs) l) n e

-- one more element, stored behind the others
pub put_more : (xs l : List ℕ) (v : ℕ) → length xs < length l → set (put xs l) (length xs) v ≡ put (xs ++ (v ∷ [])) l
unfolding put
put_more xs l v h = rw (drop-cons l (length xs) 0, set-append_seam, append_assoc, length-append, add-one)

-- the same where the list that holds them is known by that only
pub put_last : (xs l : List ℕ) (v : ℕ) {out : List ℕ} {k : ℕ} → k < length l → length xs ≡ k → out ≡ put xs l → set out k v ≡ put (xs ++ (v ∷ [])) l
put_last xs l v h e o = let g : length xs < length l = omega arith in rw (o, ← e) (put_more xs l v g)

-- a longer list put over one that it begins with
pub put_put : (xs ys l : List ℕ) → put (xs ++ ys) (put xs l) ≡ put (xs ++ ys) l
unfolding put
put_put xs ys l = rw (length-append, ← drop-drop (length ys) (length xs) (xs ++ drop (length xs) l), drop-append_seam, drop-drop)

module _ {A : Type 0} (f : A → ℕ) where
  -- the next item's number is stored behind those of the items that are done
  pub put_next : (done : List A) (a : A) (l : List ℕ) {out : List ℕ} {k : ℕ} → k < length l → length done ≡ k → out ≡ put (map f done) l
      → set out k (f a) ≡ put (map f (done ++ (a ∷ []))) l
  put_next done a l h e o = rw map-append (put_last (map f done) l (f a) h (length-map done f ∙ e) o)
