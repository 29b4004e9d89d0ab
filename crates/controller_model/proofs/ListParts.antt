-- Lists that hold a part for each head: where the parts lie, what is read from one and written to one; and tests of all numbers below a bound.
use mathlib.Core.Path.{◌≡◌, refl, ap, ◌∙◌, subst}
use mathlib.Core.Bool.{Bool, true, not}
use mathlib.Core.List.{List, [], ◌∷◌}
use Prim.Native.Nat.{ℕ, zero, suc, ◌+◌, ◌-◌, ◌≤◌, ◌<◌}
use native.Mathlib.Numerals.{add-one}
use native.Mathlib.Omega.{arith}
use lib.ListN.{length, get_or, take, drop, length-append, length-drop, get_or-append}
use lib.Seq.{length-take-le, get_or-append-add, get_or-take, get_or-drop, take-nil}
use borrow.Author.Tests.{leb-true, le-leb}
use Rattle.lists.proofs.All.{all_take, all_drop}
use Rattle.lists.specs.Lists.{lowest, sum_of}
use Rattle.lists.specs.Rising.{All}
use Rattle.lists.proofs.Bools.{not-false}
use Rattle.lists.proofs.Lowest.{lowest_before, lowest_is}
use Rattle.chart_lists.specs.Lists.{put}
use Rattle.controller_model.specs.Parts.{offset, part_of, every_below, stretch, written}

-- ---- where parts begin

-- where the next part begins
offset_suc : (lengths : List ℕ) (h : ℕ) → offset lengths (suc h) ≡ offset lengths h + get_or lengths h 0
unfolding offset sum_of
offset_suc [] zero = refl
offset_suc [] (suc h) = refl
offset_suc (n ∷ ns) zero = omega arith
offset_suc (n ∷ ns) (suc h) = omega (arith, offset_suc ns h)

-- as the code counts
pub offset_next : (lengths : List ℕ) (h : ℕ) → offset lengths (h + 1) ≡ offset lengths h + get_or lengths h 0
offset_next lengths h = rw (add-one h) (offset_suc lengths h)

-- a part ends before a later one begins
pub offset_apart : (l : List ℕ) (h g : ℕ) → h < g → offset l h + get_or l h 0 ≤ offset l g
unfolding offset sum_of
offset_apart [] h g b = rw (take-nil h, take-nil g) (omega arith)
offset_apart (x ∷ l) h zero b = absurd (omega arith)
offset_apart (x ∷ l) zero (suc g) b = omega arith
offset_apart (x ∷ l) (suc h) (suc g) b = omega (arith, offset_apart l h g (omega arith))

-- ---- a part

-- what all elements have, those of a part have
module _ (P : ℕ → Type 0) where
  pub all_part : (lengths : List ℕ) (h : ℕ) (l : List ℕ) → All P l → All P (part_of lengths h l)
  unfolding part_of stretch
  all_part lengths h l a = all_take P (get_or lengths h 0) (drop (offset lengths h) l) (all_drop P (offset lengths h) l a)

pub stretch_at : (o n : ℕ) (l : List ℕ) (j : ℕ) → j < n → get_or (stretch o n l) j 0 ≡ get_or l (o + j) 0
unfolding stretch
stretch_at o n l j b = get_or-take n (drop o l) j 0 b ∙ get_or-drop o l j 0

-- xs is written over the entries of l from o on
module _ (o : ℕ) (xs l : List ℕ) where
  module _ (begins : o ≤ length l) where
    front : length (take o l) ≡ o
    front = length-take-le o l begins

    pub written_before : (i : ℕ) → i < o → get_or (written o xs l) i 0 ≡ get_or l i 0
    unfolding written
    written_before i b = get_or-append (take o l) _ 0 i (omega (arith, front)) ∙ get_or-take o l i 0 b

    -- i entries behind o
    from : (i : ℕ) → get_or (written o xs l) (o + i) 0 ≡ get_or (put xs (drop o l)) i 0
    unfolding written
    from i = subst (λ (k : ℕ). get_or (written o xs l) (k + i) 0 ≡ get_or (put xs (drop o l)) i 0) front (get_or-append-add (take o l) _ i 0)

    pub written_in : (j : ℕ) → j < length xs → get_or (written o xs l) (o + j) 0 ≡ get_or xs j 0
    unfolding put
    written_in j b = from j ∙ get_or-append xs _ 0 j b

    pub written_behind : (i : ℕ) → o + length xs ≤ i → get_or (written o xs l) i 0 ≡ get_or l i 0
    unfolding put
    written_behind i b =
        let k : ℕ = i - (o + length xs) in
        let e : i ≡ o + (length xs + k) = omega arith in
        rw e (from (length xs + k) ∙ get_or-append-add xs (drop (length xs) (drop o l)) k 0 ∙ get_or-drop (length xs) (drop o l) k 0
        ∙ get_or-drop o l (length xs + k) 0)

  pub length_written : o + length xs ≤ length l → length (written o xs l) ≡ length l
  unfolding written put
  length_written b = simp (length-append, length-drop, length-take-le o l (omega arith)) (omega arith)

-- ---- all numbers below n

module _ (f : ℕ → Bool) (n : ℕ) where
  pub every_in : ((i : ℕ) → i < n → f i ≡ true) → every_below f n ≡ true
  unfolding every_below
  every_in h = le-leb n (lowest (λ i. not (f i)) n)
      (omega (arith, lowest_is (λ i. not (f i)) n n (omega arith) (λ l. absurd (omega arith)) (λ i l. ap not (h i l))))

  pub every_out : every_below f n ≡ true → (i : ℕ) → i < n → f i ≡ true
  unfolding every_below
  every_out e i l = not-false (f i) (lowest_before (λ i. not (f i)) n i (omega (arith, leb-true n (lowest (λ i. not (f i)) n) e)))
