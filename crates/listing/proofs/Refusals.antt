-- Which refusals the text shows, and when it shows 9 and 10; 9 never for a file of version 3. What is hard is that a text tells which refusal it
-- shows (Digits), and that the text of a chart shows none: it begins with another letter.
use mathlib.Core.Path.{◌≡◌, refl, sym, ◌∙◌}
use mathlib.Core.Logic.Iff
use mathlib.Core.Logic.{◌⊎◌, inl, inr, ◌↔◌}
use mathlib.Core.Option.{some}
use mathlib.Core.List.{List, [], ◌∷◌}
use Prim.Native.Nat.{ℕ, ◌^◌, ◌≤◌, ◌<◌}
use native.Mathlib.Omega.{arith}
use lib.ListN.{length, get_elem?}
use Rattle.file_format.specs.Parse.{Bytes}
use Rattle.lists.proofs.Bools.{lt_or_le}
use Rattle.model.specs.Answer.{refused, nowhere}
use Rattle.model.specs.Chart.{Chart}
use Rattle.model.specs.Places.{LowestUnreached, LowestUnstarted}
use Rattle.judgement.specs.Judging.{judged_in}
use Rattle.judgement.specs.Refusals.RefusalOfJudgement.{of_file, of_unreached, of_unstarted}
use Rattle.judgement.specs.Charts.{HoldsChart}
use Rattle.judgement.proofs.Corollaries.{judged_numbers, judged_9, judged_10, refusals_of_judged_in, unreached_in_lem, never_unreached}
use Rattle.listing.specs.Text.{refused_word, used_word}
use Rattle.listing.specs.Listing.{largest_input, accepted, answer_text, refused_text, first_line, chart_text, text_of}
use Rattle.listing.specs.Refusals.{RefusalShown}
use Rattle.listing.specs.Refusals.RefusalShown.{of_judgement, of_limit, of_size, of_used}
use Rattle.listing.proofs.Digits.{refused_same as text_same}
use Rattle.listing.proofs.Accepted.{text_16, text_1, accepted_refused}
use Rattle.listing.proofs.Outcomes.{Outcome, outcome}
use Rattle.listing.proofs.Outcomes.Outcome.{is_refused, is_limit, is_used, is_text}
use Rattle.listing.proofs.Inputs.{text_accepted}

-- a chart's text begins with another letter
text_differs : (K : ℕ) (c : Chart) (n p : ℕ) → chart_text K c ≡ refused_text n p → ⊥
unfolding chart_text first_line used_word refused_text refused_word
text_differs K c n p e = let z : ◌≡◌ {A = ℕ} 117 114 = cc in omega arith

-- numbers and places of refusals are short
small : {n p : ℕ} → RefusalShown n p → (n < 10 ^ 20) × (p < 10 ^ 20)
small (of_judgement (of_file r)) = place r.place r.last_number
  where
    place : {n p : ℕ} → (p ≡ nowhere) ⊎ ((4 ≤ n) × (p < 512)) → n ≤ 8 → (n < 10 ^ 20) × (p < 10 ^ 20)
    place (inl e) h = (omega arith, omega arith)
    place (inr l) h = (omega arith, omega (arith, l.1))
small (of_judgement (of_unreached e l)) = (omega arith, omega arith)
small (of_judgement (of_unstarted e l)) = (omega arith, omega arith)
small (of_limit e f) = (omega arith, omega arith)
small (of_size e f) = (omega arith, omega arith)
small (of_used e f) = (omega arith, omega arith)

-- a text that shows a refusal shows no other
same : {m q : ℕ} → RefusalShown m q → (n p : ℕ) → n < 10 ^ 20 → p < 10 ^ 20 → refused_text m q ≡ refused_text n p → RefusalShown n p
same {m} {q} r n p hn hp e =
    let s = small r in
    let t = text_same m n q p s.0 hn s.1 hp e in
    rw (t.0, t.1) at r

module _ (K : ℕ) (file : List ℕ) (bytes : Bytes file) where
  of_file_after : (n p : ℕ) → n < 10 ^ 20 → p < 10 ^ 20 → answer_text K (accepted K file) ≡ refused_text n p → RefusalShown n p
  of_file_after n p hn hp e = go (outcome K file)
    where
      go : Outcome K file → RefusalShown n p
      go (is_refused {n = m} {p = q} j a) = same (of_judgement (refusals_of_judged_in file bytes m q j)) n p hn hp (rw a at e)
      go (is_limit j h a) = same (of_limit refl refl) n p hn hp (rw a at e)
      go (is_used j h l a) = same (of_used refl refl) n p hn hp (rw a at e)
      go (is_text {c} j h l a) = absurd (text_differs K c n p (rw a at e))

  -- 1 to 10 are the judgement's, for an input that is not too long
  module _ (short : length (K ∷ file) ≤ largest_input) where
    pub shows_judged : (n p : ℕ) → n ≤ 10 → p < 10 ^ 20 → (text_of (K ∷ file) ≡ refused_text n p) ↔ (judged_in file ≡ refused n p)
    shows_judged n p few hp = (
      λ e. out (outcome K file) (sym (text_accepted K file short) ∙ e),
      λ j. text_accepted K file short ∙ rw (accepted_refused K file j),
    )
      where
        -- 11 and 20 are shown by no text of a refusal up to 10
        other : (m : ℕ) → 10 < m → m < 10 ^ 20 → refused_text m nowhere ≡ refused_text n p → judged_in file ≡ refused n p
        other m h hm e = absurd (omega (arith, (text_same m n nowhere p hm (omega arith) (omega arith) hp e).0))

        out : Outcome K file → answer_text K (accepted K file) ≡ refused_text n p → judged_in file ≡ refused n p
        out (is_refused {n = m} {p = q} j a) e =
            let s = small (of_judgement (refusals_of_judged_in file bytes m q j)) in
            let t = text_same m n q p s.0 (omega arith) s.1 hp (rw a at e) in
            rw (t.0, t.1) at j
        out (is_limit j h a) e = other 11 (omega arith) (omega arith) (rw a at e)
        out (is_used j h l a) e = other 20 (omega arith) (omega arith) (rw a at e)
        out (is_text {c} j h l a) e = absurd (text_differs K c n p (rw a at e))

    -- 9 at the lowest location that no path reaches, in a chart of a version that allows none
    pub shows_9 : (q : ℕ) → q < 256 → (text_of (K ∷ file) ≡ refused_text 9 q) ↔ HoldsChart file (λ c. LowestUnreached c q)
    shows_9 q h = Iff.trans (shows_judged 9 q (omega arith) (omega arith)) (judged_9 file bytes q)

    -- and of a file of version 3, which is its first byte, never
    pub shows_never_9 : get_elem? file 0 ≡ some 3 → (q : ℕ) → q < 256 → text_of (K ∷ file) ≡ refused_text 9 q → ⊥
    shows_never_9 v q h x = never_unreached file bytes v ((unreached_in_lem file bytes).0 (q, (shows_9 q h).0 x))

    pub shows_10 : (i : ℕ) → i < 512 → (text_of (K ∷ file) ≡ refused_text 10 i) ↔ HoldsChart file (λ c. LowestUnstarted c i)
    shows_10 i h = Iff.trans (shows_judged 10 i (omega arith) (omega arith)) (judged_10 file bytes i)

-- the text shows no other refusal
pub refusals_shown : (input : List ℕ) → Bytes input → (n p : ℕ) → n < 10 ^ 20 → p < 10 ^ 20
    → text_of input ≡ refused_text n p → RefusalShown n p
refusals_shown [] b n p hn hp e =
    let short : RefusalShown 1 nowhere =
    of_judgement (of_file (record { first_number = omega arith; last_number = omega arith; place = inl refl })) in
    same short n p hn hp (sym (text_1 [] (omega arith)) ∙ e)
refusals_shown (K ∷ file) b n p hn hp e = go (lt_or_le largest_input (length (K ∷ file)))
  where
    go : (largest_input < length (K ∷ file)) ⊎ (length (K ∷ file) ≤ largest_input) → RefusalShown n p
    go (inl l) = same (of_size refl refl) n p hn hp (sym (text_16 (K ∷ file) l) ∙ e)
    go (inr l) = of_file_after K file b.1 n p hn hp (sym (text_accepted K file l) ∙ e)

-- 17 is the writer's, 18 the counter board's
pub never_17_or_18 : (input : List ℕ) → Bytes input → (n p : ℕ) → 17 ≤ n → n ≤ 18 → p < 10 ^ 20 → text_of input ≡ refused_text n p → ⊥
never_17_or_18 input b n p lo hi hp e = go (refusals_shown input b n p (omega arith) hp e)
  where
    go : RefusalShown n p → ⊥
    go (of_judgement r) = omega (arith, (judged_numbers r).1)
    go (of_limit f h) = omega (arith, f)
    go (of_size f h) = omega (arith, f)
    go (of_used f h) = omega (arith, f)
