-- The cells of lowest twins become those of all timers of the sets, row by row. Hard: within a row the cells are written from the last on, so that
-- what is read, no higher, is still as it was.
use mathlib.Core.Path.{◌≡◌, refl, sym, ap, ◌∙◌}
use mathlib.Core.Logic.{◌⊎◌, inl, inr}
use mathlib.Core.Bool.{Bool, true, false, not}
use mathlib.Core.List.{List, map}
use Prim.Native.Nat.{ℕ, ◌+◌, ◌*◌, ◌^◌, ◌≤◌, ◌<◌}
use native.Mathlib.Decide.{ℕ_discrete}
use native.Mathlib.Omega.{arith}
use lib.ListN.{length, get_or, set, length-map}
use lib.Seq.{get_or-set_same, get_or-set_other}
use borrow.Author.Tests.{eqb-true}
use Rattle.lists.proofs.Bools.{yes_or_no, not_both, is_no, is_yes, and_both}
use Rattle.lists.proofs.Nth.{get_d_map_all}
use Rattle.timer_set.proofs.Images.{image_empty}
use Rattle.timer_set.specs.Members.{member, minus, image}
use Rattle.timer_set.proofs.Members.{member_empty, member_minus}
use Rattle.timer_set.proofs.Images.{image_out}
use Rattle.model.specs.Rewrite.{Numbering, through}
use Rattle.model.proofs.Through.{through_in, through_out}
use Rattle.allocation.specs.Cells.{no_number, cell, cells_of}
use Rattle.allocation.proofs.CellList.{cells_at, cells_is}
use Rattle.twins.specs.LowestTwins.{lowest_at, LowestListed, LowestOf}
use Rattle.twins.specs.Shared.{shared_cell, RowShared, OnlyIn}

-- ---- one row

module _ (w : ℕ) (lowest cells : List ℕ) (q j : ℕ) where
  pub shared_yes : member w j ≡ true → shared_cell w lowest cells q j ≡ get_or cells (64 * q + lowest_at lowest j) 0
  unfolding shared_cell
  shared_yes e = rw (e, shared_cell)

  pub shared_no : member w j ≡ false → shared_cell w lowest cells q j ≡ no_number
  unfolding shared_cell
  shared_no e = rw (e, shared_cell)

module _ (w : ℕ) (lowest : List ℕ) (q : ℕ) (before : List ℕ) where
  pub row_none : RowShared w lowest q before 64 before
  row_none = record { done = λ i h k. absurd (omega arith); lower = λ x h. refl; behind = λ x h. refl }

  pub row_next : LowestListed w lowest → {j k : ℕ} {now : List ℕ} → RowShared w lowest q before j now → j ≡ k + 1 → k < 64 → 64 * q + k < length now
      → {v : ℕ} → v ≡ shared_cell w lowest now q k → RowShared w lowest q before k (set now (64 * q + k) v)
  row_next s {j} {k} {now} r e small room {v} is = record {
    done = λ i h l. go i h l (ℕ_discrete i k);
    lower = λ x h. get_or-set_other now _ x v 0 (λ p. omega arith) ∙ r.lower x (omega arith);
    behind = λ x h. get_or-set_other now _ x v 0 (λ p. omega arith) ∙ r.behind x h;
  }
    where
      -- the cell that is read is as it was
      read : (b : Bool) → member w k ≡ b → shared_cell w lowest now q k ≡ shared_cell w lowest before q k
      read true m =
          shared_yes w lowest now q k m ∙ r.lower (64 * q + lowest_at lowest k) (omega (arith, s.low k m)) ∙ sym (shared_yes w lowest before q k m)
      read false m = shared_no w lowest now q k m ∙ sym (shared_no w lowest before q k m)

      go : (i : ℕ) → k ≤ i → i < 64 → Dec (i ≡ k) → get_or (set now (64 * q + k) v) (64 * q + i) 0 ≡ shared_cell w lowest before q i
      go i h l (yes p) = rw p (get_or-set_same now (64 * q + k) v 0 room ∙ is ∙ read (member w k) refl)
      go i h l (no ne) = get_or-set_other now _ (64 * q + i) v 0 (λ p. omega arith) ∙ r.done i (omega arith) l

-- ---- all rows

module _ {live lowest : List ℕ} {own : ℕ} (s : LowestOf live lowest own) (N : Numbering) (q j : ℕ) (h : q < length live) (small : j < 64) where
  -- a row that is shared
  number_shared : (now : List ℕ) → ((i : ℕ) → i < 64 → get_or now (64 * q + i) 0 ≡ cell (N.number q i))
      → shared_cell (get_or live q 0) lowest now q j ≡ cell ((through live (lowest_at lowest) N).number q j)
  number_shared now was = go (yes_or_no (member (get_or live q 0) j))
    where
      go : (member (get_or live q 0) j ≡ true) ⊎ (member (get_or live q 0) j ≡ false)
          → shared_cell (get_or live q 0) lowest now q j ≡ cell ((through live (lowest_at lowest) N).number q j)
      go (inl m) =
          shared_yes (get_or live q 0) lowest now q j m ∙ was (lowest_at lowest j) (omega (arith, (s.each q h).low j m))
          ∙ ap cell (sym (through_in live (lowest_at lowest) N q j m))
      go (inr m) = shared_no (get_or live q 0) lowest now q j m ∙ ap cell (sym (through_out live (lowest_at lowest) N q j m))

  -- a row whose timers are all their own lowest twins
  module _ (word : get_or live q 0 < 2 ^ 64) (all : minus (get_or live q 0) own ≡ 0) where
    own_low : (i : ℕ) → member (get_or live q 0) i ≡ true → lowest_at lowest i ≡ i
    own_low i m = eqb-true _ _ (sym (s.own_are q h i m) ∙ is_yes (member own i) (λ o.
        not_both (member_minus (get_or live q 0) own i ∙ and_both m (ap not o)) (ap (λ (w : ℕ). member w i) all ∙ member_empty i)))

    number_kept : OnlyIn (map (image (lowest_at lowest)) live) N → N.number q j ≡ (through live (lowest_at lowest) N).number q j
    number_kept only = go (yes_or_no (member (get_or live q 0) j))
      where
        out : member (get_or live q 0) j ≡ false → member (image (lowest_at lowest) (get_or live q 0)) j ≡ false
        out m = is_no _ (λ t.
            let x = image_out (lowest_at lowest) (get_or live q 0) word j t in
            not_both x.1 (ap (member (get_or live q 0)) (sym (own_low x.0 x.1) ∙ x.2) ∙ m))

        go : (member (get_or live q 0) j ≡ true) ⊎ (member (get_or live q 0) j ≡ false)
            → N.number q j ≡ (through live (lowest_at lowest) N).number q j
        go (inl m) = sym (through_in live (lowest_at lowest) N q j m ∙ ap (N.number q) (own_low j m))
        go (inr m) =
            only.no_other q j (omega (arith, length-map live (image (lowest_at lowest))))
            (ap (λ (w : ℕ). member w j) (get_d_map_all (image (lowest_at lowest)) (image_empty (lowest_at lowest)) live q) ∙ out m)
            ∙ sym (through_out live (lowest_at lowest) N q j m)

-- the rows below q are shared, of whichever numbering the cells were, and the others are as they were
pub record SharedTo (live lowest before : List ℕ) (q : ℕ) (now : List ℕ) : Type 0 where
  pub done : (N : Numbering) → before ≡ cells_of N (length live) → OnlyIn (map (image (lowest_at lowest)) live) N → (p j : ℕ) → p < q → j < 64
      → get_or now (64 * p + j) 0 ≡ cell ((through live (lowest_at lowest) N).number p j)
  pub left : (x : ℕ) → 64 * q ≤ x → get_or now x 0 ≡ get_or before x 0

module _ (live lowest before : List ℕ) where
  pub shared_none : SharedTo live lowest before 0 before
  shared_none = record { done = λ N e only p j h. absurd (omega arith); left = λ x h. refl }

  module _ {own : ℕ} (s : LowestOf live lowest own) {q : ℕ} (h : q < length live) {now : List ℕ} (r : SharedTo live lowest before q now) where
    -- a row more, if its cells are the right ones and the others are kept
    shared_more : (after : List ℕ)
        → ((N : Numbering) → ((i : ℕ) → i < 64 → get_or now (64 * q + i) 0 ≡ cell (N.number q i)) → OnlyIn (map (image (lowest_at lowest)) live) N
        → (j : ℕ) → j < 64 → get_or after (64 * q + j) 0 ≡ cell ((through live (lowest_at lowest) N).number q j))
        → ((x : ℕ) → x < 64 * q → get_or after x 0 ≡ get_or now x 0) → ((x : ℕ) → 64 * q + 64 ≤ x → get_or after x 0 ≡ get_or now x 0)
        → SharedTo live lowest before (q + 1) after
    shared_more after row lower behind = record {
      done = λ N e only p j l b. go N e only p j l b (ℕ_discrete p q);
      left = λ x l. behind x (omega arith) ∙ r.left x (omega arith);
    }
      where
        go : (N : Numbering) → before ≡ cells_of N (length live) → OnlyIn (map (image (lowest_at lowest)) live) N → (p j : ℕ) → p < q + 1 → j < 64
            → Dec (p ≡ q) → get_or after (64 * p + j) 0 ≡ cell ((through live (lowest_at lowest) N).number p j)
        go N e only p j l b (yes i) =
            rw i (row N (λ k d. r.left (64 * q + k) (omega arith) ∙ rw e (cells_at N (length live) q k h d)) only j b)
        go N e only p j l b (no ne) = lower (64 * p + j) (omega arith) ∙ r.done N e only p j (omega arith) b

    pub shared_kept : get_or live q 0 < 2 ^ 64 → minus (get_or live q 0) own ≡ 0 → SharedTo live lowest before (q + 1) now
    shared_kept word all =
        shared_more now (λ N was only j b. was j b ∙ ap cell (number_kept s N q j h b word all only)) (λ x l. refl) (λ x l. refl)

    pub shared_row : {after : List ℕ} → RowShared (get_or live q 0) lowest q now 0 after → SharedTo live lowest before (q + 1) after
    shared_row {after} x =
        shared_more after (λ N was only j b. x.done j (omega arith) b ∙ number_shared s N q j h b now was) (λ y l. x.lower y (omega arith))
        x.behind

  pub shared_all : {q : ℕ} {now : List ℕ} → SharedTo live lowest before q now → length live ≤ q → length now ≡ 64 * length live → (N : Numbering)
      → before ≡ cells_of N (length live) → OnlyIn (map (image (lowest_at lowest)) live) N
      → now ≡ cells_of (through live (lowest_at lowest) N) (length live)
  shared_all {now = now} r all long N e only =
      cells_is (through live (lowest_at lowest) N) (length live) now long (λ p j h b. r.done N e only p j (omega arith) b)
