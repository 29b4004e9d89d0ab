-- What the definitions' readers find at a place of a list, in the terms that code has: an index, elements and a length. Hard: a number that the list
-- cuts off, since the cut may lie before its last byte: by induction over the width.
use mathlib.Core.Path.{◌≡◌, ◌∙◌}
use mathlib.Core.Logic.{◌⊎◌, inl, inr}
use mathlib.Core.List.{List}
use Prim.Native.Nat.{ℕ, zero, suc, ◌+◌, ◌*◌, ◌≤◌, ◌<◌}
use native.Mathlib.Nat.{zero-add, add-zero, zero-mul}
use native.Mathlib.Numerals.{add-one}
use native.Mathlib.Omega.{arith}
use lib.ListN.{length, get_or, drop, drop_of_length-le}
use lib.Seq.{drop-cons}
use borrow.Author.Tests.{lt-ltb, le-ltb, le-leb, lt-leb}
use Rattle.lists.proofs.Bools.{lt_or_le}
use Rattle.model.specs.Answer.{nowhere}
use Rattle.file_format.specs.Parse.{value, refusal, byte, number, below, entry}

module _ (s : List ℕ) (at : ℕ) where
  pub byte_in : at < length s → byte (drop at s) ≡ value (get_or s at 0) (drop (at + 1) s)
  byte_in h = rw (add-one, drop-cons s at 0)

  pub byte_out : length s ≤ at → byte (drop at s) ≡ refusal 3 nowhere
  byte_out h = rw (drop_of_length-le s h)

  -- the number that w bytes from `at` on make
  abbrev pub number_at : (w : ℕ) → ℕ
  number_at zero = 0
  number_at (suc w) = number_at w * 256 + get_or s (at + w) 0

-- a number of w bytes, all in the list
pub number_in : (s : List ℕ) (at w : ℕ) → at + w ≤ length s → number w (drop at s) ≡ value (number_at s at w) (drop (at + w) s)
unfolding number
number_in s at zero h = rw add-zero
number_in s at (suc w) h =
    let k : at + w ≤ length s = omega arith in
    let l : at + w < length s = omega arith in
    let e : at + w + 1 ≡ at + suc w = omega arith in
    rw (number_in s at w k, byte_in s (at + w) l, e)

-- the same, some of them not in the list
pub number_cut : (s : List ℕ) (at w : ℕ) → length s < at + suc w → number (suc w) (drop at s) ≡ refusal 3 nowhere
unfolding number
number_cut s at zero h = let k : length s ≤ at = omega arith in rw (byte_out s at k)
number_cut s at (suc w) h = go (lt_or_le (length s) (at + suc w)) (number_cut s at w)
  where
    go : (length s < at + suc w) ⊎ (at + suc w ≤ length s) → (length s < at + suc w → number (suc w) (drop at s) ≡ refusal 3 nowhere)
        → number (suc (suc w)) (drop at s) ≡ refusal 3 nowhere
    go (inl l) ih = rw (ih l)
    go (inr l) ih = let k : length s ≤ at + suc w = omega arith in rw (number_in s at (suc w) l, byte_out s (at + suc w) k)

-- ---- the widths that the file has

module _ (s : List ℕ) (at : ℕ) where
  pub one_in : at < length s → number 1 (drop at s) ≡ value (get_or s at 0) (drop (at + 1) s)
  one_in h = number_in s at 1 (omega arith) ∙ simp (zero-mul, zero-add, add-zero)

  pub one_cut : length s < at + 1 → number 1 (drop at s) ≡ refusal 3 nowhere
  one_cut h = number_cut s at 0 h

-- ---- a number with a limit, an entry of a rising list, a code: from the number's reading

module _ (w limit n p : ℕ) (bs : List ℕ) where
  pub below_refused : {m q : ℕ} → number w bs ≡ refusal m q → below w limit n p bs ≡ refusal m q
  unfolding below
  below_refused e = rw e

  module _ {x : ℕ} {t : List ℕ} (e : number w bs ≡ value x t) where
    pub below_in : x < limit → below w limit n p bs ≡ value x t
    unfolding below
    below_in h = rw (e, lt-ltb x limit h)

    pub below_over : limit ≤ x → below w limit n p bs ≡ refusal n p
    unfolding below
    below_over h = rw (e, le-ltb x limit h)

  pub entry_refused : (lo : ℕ) {m q : ℕ} → below w limit n p bs ≡ refusal m q → entry w limit n p lo bs ≡ refusal m q
  unfolding entry
  entry_refused lo e = rw e

  module _ (lo : ℕ) {x : ℕ} {t : List ℕ} (e : below w limit n p bs ≡ value x t) where
    pub entry_in_lem : lo ≤ x → entry w limit n p lo bs ≡ value x t
    unfolding entry
    entry_in_lem h = rw (e, le-leb lo x h)

    pub entry_low : x < lo → entry w limit n p lo bs ≡ refusal 7 p
    unfolding entry
    entry_low h = rw (e, lt-leb lo x h)
