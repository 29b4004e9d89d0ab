-- With which numbers and places reading refuses: a file with 1 to 8, a body with 3 to 8; 1, 2 and 3 have no place of their own, and the others none
-- or the number of a transition, which is below 512. Hard: that bound, which the header's limit on transitions gives to each item of the list.
use mathlib.Core.Path.{◌≡◌, refl, subst}
use mathlib.Core.Logic.{◌⊎◌, inl, inr, ⊎_map}
use mathlib.Core.Bool.{Bool, true, false}
use mathlib.Core.Option.{Option, none, some}
use mathlib.Core.List.{List, [], ◌∷◌}
use Prim.Native.Nat.{ℕ, zero, suc, ◌+◌, ◌*◌, ◌≤◌, ◌<◌}
use native.Mathlib.Omega.{arith}
use lib.Dec.{ltb, leb, eqb}
use lib.ListN.{length}
use borrow.Author.Tests.{ltb-true}
use Rattle.comparison.specs.declared.Comparison.{Comparison}
use Rattle.comparison.specs.Comparison.{comparison_of}
use Rattle.model.specs.Answer.{refused, nowhere}
use Rattle.model.specs.Refusals.{Refuses}
use Rattle.model.specs.Chart.{Test, Transition}
use Rattle.model.specs.Version.{known_version, width_of}
use Rattle.model.proofs.Answers.{refuses_result, refuses_this, refuses_unless, refuses_then}
use Rattle.file_format.specs.Parse.{Parsed, value, refusal, bind, guard, byte, number, below, many, entry, rising}
use Rattle.file_format.specs.Body.{FileHeader, read_header, chart_of, is_end, read_body}
use Rattle.file_format.specs.Body.{known, read_comparison, read_test, read_tests, record_length, read_transition, read_transitions}
use Rattle.file_format.specs.File.{Frame, Versioned, read_frame, judge_frame, answered, read_file, chart_in}
use Rattle.file_format.specs.Refusals.{RefusalOfFile, RefusalOfBody}
use Rattle.file_format.proofs.Parsed.{value_refused, same_value}
use Rattle.file_format.proofs.Answers.{answered_refused}

-- what reading comes to: a refusal of a body, or a value with the property Q
record Reads {A : Type 0} (Q : A → Type 0) (x : Parsed A) : Type 0 where
  pub refuses : (n p : ℕ) → x ≡ refusal n p → RefusalOfBody n p
  pub gives : (a : A) (t : List ℕ) → x ≡ value a t → Q a

-- a value of which nothing is said
abbrev Some : {A : Type 0} → A → Type 0
Some a = Unit {0}

found : {A : Type 0} {Q : A → Type 0} (a : A) (t : List ℕ) → Q a → Reads Q (value a t)
found {Q = Q} a t v = record { refuses = λ n p e. absurd (value_refused refl e); gives = λ b u e. subst Q (same_value e) v }

only : {A : Type 0} {Q : A → Type 0} {n p : ℕ} → RefusalOfBody n p → Reads Q (refusal n p)
only {n = n} {p = p} r = record {
  refuses = λ m q e. let f : m ≡ n = cc in let g : q ≡ p = cc in rw (f, g) r;
  gives = λ a t e. absurd (value_refused e refl);
}

at_bind : {A B : Type 0} {P : A → Type 0} {Q : B → Type 0} (x : Parsed A) {k : A → List ℕ → Parsed B} → Reads P x
    → ((a : A) (t : List ℕ) → P a → Reads Q (k a t)) → Reads Q (bind x k)
at_bind (value a t) h f = f a t (h.gives a t refl)
at_bind (refusal n p) h f = only (h.refuses n p refl)

at_guard : {A : Type 0} {Q : A → Type 0} (c : Bool) {n p : ℕ} {x : Parsed A} → RefusalOfBody n p → (c ≡ true → Reads Q x) → Reads Q (guard c n p x)
at_guard true r h = h refl
at_guard false r h = only r

-- items: Left s n says that n items may be read from the state s on
module _ {S A : Type 0} (next : S → A → S) (read : S → List ℕ → Parsed A) (Left : S → ℕ → Type 0)
    (item : (s : S) (n : ℕ) (bs : List ℕ) → Left s (suc n) → Reads Some (read s bs))
    (more : (s : S) (n : ℕ) (a : A) → Left s (suc n) → Left (next s a) n) where
  at_many : (s : S) (n : ℕ) (bs : List ℕ) → Left s n → Reads Some (many next read s n bs)
  unfolding many
  at_many s zero bs l = found [] bs tt
  at_many s (suc n) bs l =
      at_bind (read s bs) (item s n bs l)
      (λ a t u. at_bind (many next read (next s a) n t) (at_many (next s a) n t (more s n a l))
      (λ xs v w. found (a ∷ xs) v tt))

-- ---- fields

cut : RefusalOfBody 3 nowhere
cut = record { first_number = omega arith; last_number = omega arith; place = inl refl }

at_byte : (bs : List ℕ) → Reads Some (byte bs)
at_byte [] = only cut
at_byte (b ∷ t) = found b t tt

at_number : (w : ℕ) (bs : List ℕ) → Reads Some (number w bs)
unfolding number
at_number zero bs = found 0 bs tt
at_number (suc w) bs = at_bind (number w bs) (at_number w bs) (λ high t _. at_bind (byte t) (at_byte t) (λ low u _. found (high * 256 + low) u tt))

-- the fields that refuse at p: nowhere, or at a transition
module _ (p : ℕ) (place : (p ≡ nowhere) ⊎ (p < 512)) where
  numbered : (n : ℕ) → 4 ≤ n → n ≤ 8 → RefusalOfBody n p
  numbered n h l = record { first_number = omega arith; last_number = l; place = ⊎_map (λ e. e) (λ few. (h, few)) place }

  at_below : (w limit n : ℕ) → 4 ≤ n → n ≤ 8 → (bs : List ℕ) → Reads (λ x. x < limit) (below w limit n p bs)
  unfolding below
  at_below w limit n h l bs =
      at_bind (number w bs) (at_number w bs)
      (λ x t _. at_guard (ltb x limit) (numbered n h l) (λ c. found x t (ltb-true x limit c)))

  at_rising : (w limit n k : ℕ) → 4 ≤ n → n ≤ 8 → (bs : List ℕ) → Reads Some (rising w limit n p k bs)
  unfolding rising entry
  at_rising w limit n k h l bs =
      at_many (λ (lo x : ℕ). suc x) (entry w limit n p) (λ lo k. Unit {0})
      (λ lo k bs _. at_bind (below w limit n p bs) (at_below w limit n h l bs)
      (λ x t _. at_guard (leb lo x) (numbered 7 (omega arith) (omega arith)) (λ c. found x t tt)))
      (λ lo k x _. tt) 0 k bs tt

-- ---- the body

module _ (i : ℕ) (few : i < 512) where
  known_refuses : (o : Option Comparison) (t : List ℕ) → Reads Some (known i o t)
  known_refuses none t = only (numbered i (inr few) 8 (omega arith) (omega arith))
  known_refuses (some x) t = found x t tt

  test_refuses : (W timers : ℕ) (bs : List ℕ) → Reads Some (read_test W timers i bs)
  unfolding read_test read_comparison
  test_refuses W timers bs =
      at_bind (below 1 timers 6 i bs) (at_below i (inr few) 1 timers 6 (omega arith) (omega arith) bs)
      (λ timer b₁ u₁. at_bind (read_comparison i b₁) (at_bind (number 1 b₁) (at_number 1 b₁) (λ code t _. known_refuses (comparison_of code) t))
      (λ comparison b₂ u₂. at_bind (number W b₂) (at_number W b₂)
      (λ constant b₃ u₃. found _ b₃ tt)))

module _ (i : ℕ) (few : i < 512) where
  transition_refuses : (W locations timers : ℕ) (bs : List ℕ) → Reads Some (read_transition W locations timers i bs)
  unfolding read_transition read_tests
  transition_refuses W locations timers bs =
      at_bind (number 2 bs) (at_number 2 bs)
      (λ len b₁ u₁. at_bind (below 2 locations 5 i b₁) (at_below i (inr few) 2 locations 5 (omega arith) (omega arith) b₁)
      (λ source b₂ u₂. at_bind (below 2 locations 5 i b₂) (at_below i (inr few) 2 locations 5 (omega arith) (omega arith) b₂)
      (λ target b₃ u₃. at_bind (number 1 b₃) (at_number 1 b₃)
      (λ event b₄ u₄. at_bind (below 1 65 4 i b₄) (at_below i (inr few) 1 65 4 (omega arith) (omega arith) b₄)
      (λ s b₅ u₅. at_bind (rising 1 timers 6 i s b₅) (at_rising i (inr few) 1 timers 6 s (omega arith) (omega arith) b₅)
      (λ starts b₆ u₆. at_bind (number 1 b₆) (at_number 1 b₆)
      (λ g b₇ u₇. at_guard (eqb len (record_length W s g)) cut
      (λ c. at_guard (leb g 8) (numbered i (inr few) 4 (omega arith) (omega arith))
      (λ c'. at_bind (read_tests W timers i g b₇)
      (at_many (λ (s : ℕ) (t : Test). s) (read_test W timers) (λ s k. s < 512) (λ s k bs l. test_refuses s l W timers bs) (λ s k t l. l) i g b₇ few)
      (λ tests b₈ u₈. found _ b₈ tt))))))))))

-- with few transitions to come
header_refuses : (bs : List ℕ) → Reads (λ (h : FileHeader). h.count < 513) (read_header bs)
unfolding read_header
header_refuses bs =
    at_bind (below 2 257 4 nowhere bs) (at_below nowhere (inl refl) 2 257 4 (omega arith) (omega arith) bs)
    (λ locations b₁ u₁. at_guard (leb 1 locations) (numbered nowhere (inl refl) 4 (omega arith) (omega arith))
    (λ c. at_bind (below 2 locations 5 nowhere b₁) (at_below nowhere (inl refl) 2 locations 5 (omega arith) (omega arith) b₁)
    (λ initial b₂ u₂. at_bind (below 1 65 4 nowhere b₂) (at_below nowhere (inl refl) 1 65 4 (omega arith) (omega arith) b₂)
    (λ timers b₃ u₃. at_bind (number 2 b₃) (at_number 2 b₃)
    (λ a b₄ u₄. at_bind (rising 2 locations 5 nowhere a b₄) (at_rising nowhere (inl refl) 2 locations 5 a (omega arith) (omega arith) b₄)
    (λ accepting b₅ u₅. at_bind (below 2 513 4 nowhere b₅) (at_below nowhere (inl refl) 2 513 4 (omega arith) (omega arith) b₅)
    (λ count b₆ u₆. found _ b₆ u₆)))))))

body_refuses : (version W : ℕ) (bs : List ℕ) → Reads Some (read_body version W bs)
unfolding read_body read_transitions
body_refuses version W bs =
    at_bind (read_header bs) (header_refuses bs)
    (λ h b₁ u₁. at_bind (read_transitions W h.locations h.timers h.count b₁)
    (at_many (λ (i : ℕ) (r : Transition). suc i) (read_transition W h.locations h.timers) (λ i n. i + n ≤ 512)
    (λ i n bs l. transition_refuses i (omega arith) W h.locations h.timers bs) (λ i n r l. omega arith) 0 h.count b₁ (omega arith))
    (λ rs b₂ u₂. at_guard (is_end b₂) cut (λ c. found (chart_of version h rs) b₂ tt)))

pub refusals_of_read_body : (version W : ℕ) (bs : List ℕ) (n p : ℕ) → read_body version W bs ≡ refusal n p → RefusalOfBody n p
refusals_of_read_body version W bs n p e = (body_refuses version W bs).refuses n p e

-- ---- the file

-- 1 and 2 come before the body and have no place
module _ (known : ℕ → Bool) (width : ℕ → ℕ) where
  before_body : (m : ℕ) → 1 ≤ m → m ≤ 2 → RefusalOfFile m nowhere
  before_body m h l = record { first_number = h; last_number = omega arith; place = inl refl }

  frame_refuses : (x : Parsed Frame) → Refuses RefusalOfFile (judge_frame known x)
  unfolding judge_frame
  frame_refuses (refusal m q) = refuses_this (before_body 1 (omega arith) (omega arith))
  frame_refuses (value f body) =
      refuses_unless (eqb f.follow (length body)) 1 nowhere _ (λ e. before_body 1 (omega arith) (omega arith)) (λ e.
      refuses_unless (known f.version) 2 nowhere _ (λ e. before_body 2 (omega arith) (omega arith)) (λ e. refuses_result _))

  in_body : (f : Versioned) → Refuses RefusalOfFile (answered (read_body f.version (width f.version) f.body))
  in_body f = record {
    only = λ n p e.
        let r = refusals_of_read_body f.version (width f.version) f.body n p (answered_refused _ e) in
        record { first_number = omega (arith, r.first_number); last_number = r.last_number; place = r.place };
  }

  file_refuses : (bs : List ℕ) → Refuses RefusalOfFile (read_file known width bs)
  unfolding read_file
  file_refuses bs = refuses_then (judge_frame known (read_frame bs)) _ (frame_refuses (read_frame bs)) (λ f e. in_body f)

module _ (known : ℕ → Bool) (width : ℕ → ℕ) (n p : ℕ) where
  pub refusals_of_read_file : (bs : List ℕ) → read_file known width bs ≡ refused n p → RefusalOfFile n p
  refusals_of_read_file bs = (file_refuses known width bs).only n p

pub refusals_of_chart_in : (bs : List ℕ) (n p : ℕ) → chart_in bs ≡ refused n p → RefusalOfFile n p
unfolding chart_in
refusals_of_chart_in bs n p e = refusals_of_read_file known_version width_of n p bs e
