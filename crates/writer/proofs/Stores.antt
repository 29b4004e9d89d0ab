-- Stored bytes as the digits of a number.
use mathlib.Core.Path.{◌≡◌, refl, ◌∙◌}
use mathlib.Core.List.{List, [], ◌∷◌, ◌++◌}
use Prim.Native.Nat.{ℕ, ◌/◌, ◌%◌, ◌^◌, ◌≤◌, ◌<◌}
use native.Mathlib.Omega.{arith}
use lib.ListN.{length, drop, set}
use Rattle.std.specs.Int.{to_be_bytes, w16, w32}
use Rattle.model.specs.Version.{width_of, widest}
use Rattle.model.proofs.Versions.{by_version}
use Rattle.file_format.specs.Parse.{digits}
use Rattle.file_format.proofs.Lengths.{length_digits}
use Rattle.chart_lists.specs.Lists.{put}

pub put_one : (v : ℕ) (l : List ℕ) → v < 256 → 1 ≤ length l → set l 0 v ≡ put (digits 1 v) l
unfolding put digits
put_one v [] h k = absurd (omega arith)
put_one v (x ∷ t) h k = let e : v % 256 ≡ v = omega arith in rw e

-- a constant fits the bytes of its version, if it fits two where these are two
pub fits_width : (v k : ℕ) → (width_of v ≡ 2 → k < 256 ^ 2) → k < 256 ^ widest → k < 256 ^ width_of v
fits_width v k two wide = by_version (λ W. (W ≡ 2 → k < 256 ^ 2) → k < 256 ^ W) v (λ e f. f refl) (λ e f. wide) two

-- the bytes of a number, the highest first, are its digits
put_digits : (w : ℕ) (bs l : List ℕ) (v : ℕ) → bs ≡ digits w v → bs ++ drop w l ≡ put (digits w v) l
unfolding put
put_digits w bs l v e = rw (e, length_digits w v)

pub put_two : {bs : List ℕ} (v : ℕ) (l : List ℕ) → bs ≡ to_be_bytes w16 v → bs ++ drop 2 l ≡ put (digits 2 v) l
unfolding digits
put_two v l e = put_digits 2 _ l v e

pub put_four : {bs : List ℕ} (v : ℕ) (l : List ℕ) → bs ≡ to_be_bytes w32 v → bs ++ drop 4 l ≡ put (digits 4 v) l
unfolding digits
put_four v l e =
    let a : v / 256 / 256 ≡ v / 65536 = omega arith in
    let b : v / 65536 / 256 ≡ v / 16777216 = omega arith in
    put_digits 4 _ l v (e ∙ rw (a, b))

-- four bytes as two times two
pub digits_four : (v : ℕ) → digits 2 (v / 65536) ++ digits 2 (v % 65536) ≡ digits 4 v
unfolding digits
digits_four v =
    let a : v % 65536 / 256 % 256 ≡ v / 256 % 256 = omega arith in
    let b : v % 65536 % 256 ≡ v % 256 = omega arith in
    let c : v / 65536 ≡ v / 256 / 256 = omega arith in
    rw (a, b, c)
