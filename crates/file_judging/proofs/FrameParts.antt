-- The version byte and the length, read as the code reads them: 1, 2, or the version and the body.
use mathlib.Core.Path.{◌≡◌, sym, ◌∙◌, subst}
use mathlib.Core.Logic.{◌⊎◌, inl, inr}
use mathlib.Core.Bool.{true, false}
use mathlib.Core.List.{List}
use Prim.Native.Nat.{ℕ, suc, ◌+◌, ◌≤◌, ◌<◌}
use native.Mathlib.Omega.{arith}
use lib.Dec.{eqb}
use lib.ListN.{length, drop, length-drop}
use borrow.Author.Tests.{eq-eqb, ne_eqb}
use Rattle.lists.proofs.Bools.{lt_or_le}
use Rattle.model.specs.Answer.{Answer, returned, refused, nowhere}
use Rattle.model.specs.Version.{known_version}
use Rattle.file_format.specs.Parse.{value, refusal, number}
use Rattle.file_format.specs.File.{Versioned, read_frame, judge_frame}
use Rattle.file_format.proofs.Parsed.{value_refused, same_rest}
use Rattle.file_format.proofs.Reading.{number_in, number_cut}

-- a number that was read is in the list, and what follows it is left
number_place : (w : ℕ) (s : List ℕ) (at : ℕ) {x : ℕ} {t : List ℕ} → number (suc w) (drop at s) ≡ value x t
    → (at + suc w ≤ length s) × (t ≡ drop (at + suc w) s)
number_place w s at {x} {t} e = go (lt_or_le (length s) (at + suc w))
  where
    go : (length s < at + suc w) ⊎ (at + suc w ≤ length s) → (at + suc w ≤ length s) × (t ≡ drop (at + suc w) s)
    go (inl l) = absurd (value_refused e (number_cut s at w l))
    go (inr l) = (l, same_rest (sym e ∙ number_in s at (suc w) l))

module _ (s : List ℕ) where
  abbrev judgement : Answer Versioned
  judgement = judge_frame known_version (read_frame s)

  pub no_version : {m p : ℕ} → number 1 s ≡ refusal m p → refused 1 nowhere ≡ judgement
  unfolding read_frame judge_frame
  no_version e = rw e

  module _ {v : ℕ} {rest : List ℕ} (e₀ : number 1 s ≡ value v rest) where
    pub no_length : {m p : ℕ} → number 4 rest ≡ refusal m p → refused 1 nowhere ≡ judgement
    unfolding read_frame judge_frame
    no_length e = rw (e₀, e)

    module _ {x : ℕ} {body : List ℕ} (e₁ : number 4 rest ≡ value x body) where
      -- five bytes stand before the body
      body_length_lem : length body + 5 ≡ length s
      body_length_lem =
          let i = number_place 0 s 0 e₀ in
          let j = number_place 3 s 1 (subst (λ (l : List ℕ). number 4 l ≡ value x body) i.1 e₁) in
          rw (j.1, length-drop) (omega (arith, j.0))

      pub wrong_length : (x + 5 ≡ length s → ⊥) → refused 1 nowhere ≡ judgement
      unfolding read_frame judge_frame
      wrong_length h =
          let g : x ≡ length body → ⊥ = λ q. h (rw q body_length_lem) in
          rw (e₀, e₁, ne_eqb x (length body) g)

      module _ (h : x + 5 ≡ length s) where
        right_length : eqb x (length body) ≡ true
        right_length = eq-eqb x (length body) (omega (arith, body_length_lem))

        pub wrong_version : known_version v ≡ false → refused 2 nowhere ≡ judgement
        unfolding read_frame judge_frame
        wrong_version g = rw (e₀, e₁, right_length, g)

        pub good_frame : known_version v ≡ true → returned (record { version = v; body = body }) ≡ judgement
        unfolding read_frame judge_frame
        good_frame g = rw (e₀, e₁, right_length, g)

pub ruleset frame_parts = (no_version, no_length, wrong_length, wrong_version, good_frame)
