-- A family that gets a number: what stands in the rows, and the words of held numbers that go on agreeing with them. What is hard: the rows have the
-- number and nothing else more, since none of the family's cells had a number.
use mathlib.Core.Path.{◌≡◌, sym, ap, ap₂, ◌∙◌, subst}
use mathlib.Core.Logic.{◌⊎◌, inl, inr}
use mathlib.Core.Bool.{Bool, true, false, ◌||◌, or-false}
use mathlib.Core.List.{List}
use Prim.Native.Nat.{ℕ, ◌+◌, ◌*◌, ◌/◌, ◌%◌, ◌≤◌, ◌<◌}
use native.Mathlib.Decide.{ℕ_discrete}
use native.Mathlib.Omega.{arith}
use lib.Dec.{eqb}
use lib.ListN.{length, get_or}
use borrow.Author.Tests.{eq-eqb, ne_eqb}
use Rattle.lists.proofs.Bools.{yes_or_no, is_no, same_bool, same_number, or_cases, or_left, or_right}
use Rattle.timer_set.specs.Members.{member, added}
use Rattle.timer_set.proofs.Members.{member_added, member_empty}
use Rattle.allocation.specs.Cells.{no_number}
use Rattle.allocation.specs.Rows.{in_family, in_row, in_word, some_in, taken, given, holding, WordsAgree, Unnumbered}
use Rattle.allocation.specs.Rows.{held_words, held_numbers, cell_place, word_place}
use Rattle.chart_lists.specs.Limits.{most_locations}
use Rattle.allocation.proofs.Below.{below_in, below_out, some_in_lem, some_out}
use Rattle.allocation.proofs.Filling.{changed_no, changed_other, changed_here}

-- the numbers below 512 of a family's locations are the same by words and by rows
pub words_taken : (sets cells held : List ℕ) → WordsAgree cells held (length sets) → (j w x : ℕ) → w < held_words → x < 64
    → some_in sets j (λ s. in_word held s w x) (length sets) ≡ taken sets cells j (64 * w + x)
unfolding WordsAgree taken
words_taken sets cells held m j w x h k = same_bool _ _
    (λ t. let s = some_out sets j _ (length sets) t in some_in_lem sets j _ (length sets) s.0 s.1 s.2 (sym (m s.0 w x s.1 h k) ∙ s.3))
    (λ t. let s = some_out sets j _ (length sets) t in some_in_lem sets j _ (length sets) s.0 s.1 s.2 (m s.0 w x s.1 h k ∙ s.3))

-- no number stands anywhere
pub words_none : (cells held : List ℕ) (n : ℕ) → ((x : ℕ) → get_or held x 0 ≡ 0) → ((x : ℕ) → x < 64 * n → get_or cells x 0 ≡ no_number)
    → WordsAgree cells held n
unfolding WordsAgree in_row
words_none cells held n empty unnumbered s w x h a b =
    ap (λ (y : ℕ). member y x) (empty _) ∙ member_empty x ∙ sym (is_no _ (λ t.
    let i = below_out _ 64 t in
    let e : get_or cells (64 * s + i.0) 0 ≡ 64 * w + x = same_number i.2 in
    omega (arith, e, unnumbered (64 * s + i.0) (omega (arith, i.1)))))

-- ---- the family of timer j has got a number

module _ (sets : List ℕ) (j number : ℕ) (few : j < 64) (cells after : List ℕ) (unnumbered : Unnumbered sets j cells)
    (gave : (s i : ℕ) → s < length sets → i < 64 → get_or after (64 * s + i) 0 ≡ given sets j number cells s i) where
  module _ (s : ℕ) (h : s < length sets) where
    same_cell : (i : ℕ) → i < 64 → (j ≡ i → ⊥) → get_or after (64 * s + i) 0 ≡ get_or cells (64 * s + i) 0
    unfolding given
    same_cell i k n = gave s i h k ∙ changed_other cell_place sets j j (λ _. number) cells s i n

    -- elsewhere the row is as it was
    row_kept : in_family sets j s ≡ false → (k : ℕ) → in_row after s k 64 ≡ in_row cells s k 64
    unfolding given in_row
    row_kept e k = same_bool _ _
        (λ t. let i = below_out _ 64 t in below_in _ 64 i.0 i.1 (ap (λ (y : ℕ). eqb y k) (sym (same i.0 i.1)) ∙ i.2))
        (λ t. let i = below_out _ 64 t in below_in _ 64 i.0 i.1 (ap (λ (y : ℕ). eqb y k) (same i.0 i.1) ∙ i.2))
      where
        same : (i : ℕ) → i < 64 → get_or after (64 * s + i) 0 ≡ get_or cells (64 * s + i) 0
        same i b = gave s i h b ∙ changed_no cell_place sets j j (λ _. number) cells s e i

    -- at its locations the row has the number more
    row_given : in_family sets j s ≡ true → (k : ℕ) → k < no_number → in_row after s k 64 ≡ (in_row cells s k 64 || eqb number k)
    unfolding given in_row Unnumbered
    row_given e k small = same_bool _ _ (λ t. let i = below_out _ 64 t in there i.0 i.1 i.2 (ℕ_discrete j i.0)) (λ t. back (or_cases _ t))
      where
        here : get_or after (64 * s + j) 0 ≡ number
        here = gave s j h few ∙ changed_here cell_place sets j j (λ _. number) cells s e

        there : (i : ℕ) → i < 64 → eqb (get_or after (64 * s + i) 0) k ≡ true → Dec (j ≡ i) → (in_row cells s k 64 || eqb number k) ≡ true
        there i b t (yes p) =
            or_right (in_row cells s k 64) (ap (λ (y : ℕ). eqb y k) (sym here) ∙ ap (λ (y : ℕ). eqb (get_or after (64 * s + y) 0) k) p ∙ t)
        there i b t (no n) = or_left (eqb number k) (below_in _ 64 i b (ap (λ (y : ℕ). eqb y k) (sym (same_cell i b n)) ∙ t))

        old : (i : ℕ) → i < 64 → eqb (get_or cells (64 * s + i) 0) k ≡ true → Dec (j ≡ i) → in_row after s k 64 ≡ true
        old i b t (yes p) = let v : get_or cells (64 * s + i) 0 ≡ k = same_number t in
            let z : get_or cells (64 * s + i) 0 ≡ no_number = subst (λ (y : ℕ). get_or cells (64 * s + y) 0 ≡ no_number) p (unnumbered s h e) in
            absurd (omega (arith, small, v, z))
        old i b t (no n) = below_in _ 64 i b (ap (λ (y : ℕ). eqb y k) (same_cell i b n) ∙ t)

        back : (in_row cells s k 64 ≡ true) ⊎ (eqb number k ≡ true) → in_row after s k 64 ≡ true
        back (inl t) = let i = below_out _ 64 t in old i.0 i.1 i.2 (ℕ_discrete j i.0)
        back (inr t) = below_in _ 64 j few (ap (λ (y : ℕ). eqb y k) here ∙ t)

  module _ (held : List ℕ) (words_agree : WordsAgree cells held (length sets)) where
    -- a number of no kept word leaves the words as they are
    pub words_past : held_numbers ≤ number → WordsAgree after held (length sets)
    unfolding WordsAgree
    words_past past s w x h a b = go (yes_or_no (in_family sets j s))
      where
        go : (in_family sets j s ≡ true) ⊎ (in_family sets j s ≡ false) → in_word held s w x ≡ in_row after s (64 * w + x) 64
        go (inl e) =
            words_agree s w x h a b ∙ sym (or-false _)
            ∙ ap (λ (c : Bool). in_row cells s (64 * w + x) 64 || c) (sym (ne_eqb number (64 * w + x) (λ p. omega arith)))
            ∙ sym (row_given s h e (64 * w + x) (omega arith))
        go (inr e) = words_agree s w x h a b ∙ sym (row_kept s h e (64 * w + x))

    pub words_held : number < held_numbers → (words : List ℕ)
        → ((s v : ℕ) → s < length sets → v < held_words
        → get_or words (most_locations * v + s) 0 ≡ holding sets j (number / 64) (number % 64) held s v)
        → WordsAgree after words (length sets)
    unfolding WordsAgree holding
    words_held small words has s w x h a b = go (yes_or_no (in_family sets j s)) (ℕ_discrete (number / 64) w)
      where
        old : get_or words (most_locations * w + s) 0 ≡ get_or held (most_locations * w + s) 0 → in_word words s w x ≡ in_row cells s (64 * w + x) 64
        old e = ap (λ (y : ℕ). member y x) e ∙ words_agree s w x h a b

        go : (in_family sets j s ≡ true) ⊎ (in_family sets j s ≡ false) → Dec (number / 64 ≡ w) → in_word words s w x ≡ in_row after s (64 * w + x) 64
        go (inl e) (yes p) =
            ap (λ (y : ℕ). member y x) (has s w h a ∙ word) ∙ member_added _ (number % 64) x
            ∙ ap₂ ◌||◌ (words_agree s w x h a b) same ∙ sym (row_given s h e (64 * w + x) (omega arith))
          where
            word : holding sets j (number / 64) (number % 64) held s w ≡ added (get_or held (most_locations * w + s) 0) (number % 64)
            word =
                subst (λ (v : ℕ). holding sets j (number / 64) (number % 64) held s v ≡ added (get_or held (most_locations * v + s) 0) (number % 64))
                p
                (changed_here word_place sets j (number / 64) (λ y. added y (number % 64)) held s e)

            same : eqb x (number % 64) ≡ eqb number (64 * w + x)
            same = same_bool _ _
                (λ t. let n : x ≡ number % 64 = same_number t in eq-eqb number (64 * w + x) (omega arith))
                (λ t. let n : number ≡ 64 * w + x = same_number t in eq-eqb x (number % 64) (omega arith))
        go (inl e) (no n) =
            old (has s w h a ∙ changed_other word_place sets j (number / 64) (λ y. added y (number % 64)) held s w n) ∙ sym (or-false _)
            ∙ ap (λ (c : Bool). in_row cells s (64 * w + x) 64 || c) (sym (ne_eqb number (64 * w + x) (λ p. n (omega arith))))
            ∙ sym (row_given s h e (64 * w + x) (omega arith))
        go (inr e) d =
            old (has s w h a ∙ changed_no word_place sets j (number / 64) (λ y. added y (number % 64)) held s e w)
            ∙ sym (row_kept s h e (64 * w + x))
