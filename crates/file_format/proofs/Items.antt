-- A loop that reads n items, one in each turn: what is read so far and what is left give the whole list. Hard: the items read stand in front of those
-- left, which the definition reads from the front: a turn moves one from the one list to the other.
use mathlib.Core.Path.{◌≡◌, refl, sym, ap, ◌∙◌}
use mathlib.Core.List.{List, [], ◌∷◌, ◌++◌, append_assoc, append-nil}
use Prim.Native.Nat.{ℕ, zero, suc, ◌+◌, ◌-◌, ◌≤◌, ◌<◌}
use native.Mathlib.Omega.{arith}
use lib.ListN.{length, length-append}
use Rattle.model.specs.Chart.{Test, Transition}
use Rattle.file_format.specs.Parse.{Parsed, value, refusal, bind, many, entry, rising}
use Rattle.file_format.specs.Body.{read_test, read_tests, read_transition, read_transitions}
use Rattle.file_format.proofs.Parsed.{bind_value, kept_value}

-- a list that was read has as many items as were asked for
module _ {S A : Type 0} (next : S → A → S) (read : S → List ℕ → Parsed A) where
  pub many_length : (s : S) (n : ℕ) (bs : List ℕ) (xs : List A) (t : List ℕ) → many next read s n bs ≡ value xs t → length xs ≡ n
  unfolding many
  many_length s zero bs xs t e = let q : xs ≡ [] = cc in rw q
  many_length s (suc n) bs xs t e =
      let i = bind_value (read s bs) _ xs t e in
      let j = bind_value (many next read (next s i.0) n i.1) _ xs t i.3 in
      let q : xs ≡ i.0 ∷ j.0 = cc in
      rw q (ap suc (many_length (next s i.0) n i.1 j.0 j.1 j.2))

  -- Of n items k are read: `done`. They left the state s and the bytes bs; `whole` is what all n come to.
  pub record Turn (whole : Parsed (List A)) (n k : ℕ) (done : List A) (s : S) (bs : List ℕ) : Type 0 where
    pub most : k ≤ n
    pub count : length done ≡ k
    pub left : whole ≡ bind (many next read s (n - k) bs) (λ xs t. value (done ++ xs) t)

  kept_all : (x : Parsed (List A)) → x ≡ bind x (λ xs t. value xs t)
  kept_all (value xs t) = refl
  kept_all (refusal m p) = refl

  pub turn_first : (n : ℕ) (s : S) (bs : List ℕ) → Turn (many next read s n bs) n 0 [] s bs
  turn_first n s bs = let z : n - 0 ≡ n = omega arith in
      record { most = omega arith; count = refl; left = rw z (kept_all (many next read s n bs)) }

module _ {S A : Type 0} {next : S → A → S} {read : S → List ℕ → Parsed A} {whole : Parsed (List A)} {n k : ℕ} {done : List A} {s : S} {bs : List ℕ}
    (h : Turn next read whole n k done s bs) where
  -- no item is left
  pub turn_done : n ≤ k → whole ≡ value done bs
  unfolding many
  turn_done l = let z : n - k ≡ 0 = omega (arith, h.most) in h.left ∙ rw (z, append-nil)

  rest : (a : A) (y : Parsed (List A))
      → bind (bind y (λ xs u. value (a ∷ xs) u)) (λ xs t. value (done ++ xs) t) ≡ bind y (λ xs t. value ((done ++ (a ∷ [])) ++ xs) t)
  rest a (value xs t) = rw append_assoc
  rest a (refusal m p) = refl

  -- the next item, and how it goes on from there
  module _ (l : k < n) where
    one_more : n - k ≡ suc (n - (k + 1))
    one_more = omega arith

    -- the next item is refused, and so is the whole
    pub turn_refused : {m p : ℕ} → read s bs ≡ refusal m p → whole ≡ refusal m p
    unfolding many
    turn_refused e = h.left ∙ rw (one_more, e)

    pub turn_again : {a : A} {t : List ℕ} → read s bs ≡ value a t → Turn next read whole n (k + 1) (done ++ (a ∷ [])) (next s a) t
    unfolding many
    turn_again {a} {t} e = record {
      most = omega arith;
      count = rw length-append (omega (arith, h.count));
      left = h.left ∙ rw (one_more, e) (rest a (many next read (next s a) (n - (k + 1)) t));
    }

  -- what is read so far is the front of the whole
  pub turn_front : {all : List A} {end : List ℕ} → whole ≡ value all end
      → (xs : List A) × (many next read s (n - k) bs ≡ value xs end) × (done ++ xs ≡ all)
  turn_front e = kept_value (λ (xs : List A). done ++ xs) (many next read s (n - k) bs) (sym h.left ∙ e)

-- ---- the lists of the file begin so

pub rising_first : (w limit n p k : ℕ) (bs : List ℕ) → Turn (λ (lo x : ℕ). suc x) (entry w limit n p) (rising w limit n p k bs) k 0 [] 0 bs
unfolding rising
rising_first w limit n p k bs = turn_first (λ (lo x : ℕ). suc x) (entry w limit n p) k 0 bs

pub tests_first : (W timers i g : ℕ) (bs : List ℕ) → Turn (λ (i : ℕ) (t : Test). i) (read_test W timers) (read_tests W timers i g bs) g 0 [] i bs
unfolding read_tests
tests_first W timers i g bs = turn_first (λ (i : ℕ) (t : Test). i) (read_test W timers) g i bs

pub transitions_first : (W locations timers n : ℕ) (bs : List ℕ)
    → Turn (λ (i : ℕ) (r : Transition). suc i) (read_transition W locations timers) (read_transitions W locations timers n bs) n 0 [] 0 bs
unfolding read_transitions
transitions_first W locations timers n bs = turn_first (λ (i : ℕ) (r : Transition). suc i) (read_transition W locations timers) n 0 bs
