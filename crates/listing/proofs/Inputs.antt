-- Of every input: its text fits a buffer of 131,072 bytes, and depends on no more than its first 65,537 bytes. By the four outcomes.
use mathlib.Core.Path.{◌≡◌, sym, ap, ◌∙◌}
use mathlib.Core.Logic.{◌⊎◌, inl, inr}
use mathlib.Core.List.{List, [], ◌∷◌}
use Prim.Native.Nat.{ℕ, suc, ◌≤◌, ◌<◌}
use native.Mathlib.Omega.{arith}
use lib.ListN.{length, take}
use lib.Seq.{take_all, length-take-le}
use borrow.Author.Tests.{le-leb}
use Rattle.file_format.specs.Parse.{Bytes}
use Rattle.lists.proofs.Bools.{lt_or_le}
use Rattle.model.specs.Answer.{returned, nowhere}
use Rattle.model.specs.Chart.{Chart}
use Rattle.file_format.specs.File.{chart_in}
use Rattle.file_format.proofs.File.{reads_valid}
use Rattle.file_format.proofs.LargestFile.{no_larger}
use Rattle.judgement.proofs.Corollaries.{judged_result}
use Rattle.listing.specs.Listing.{largest_input, largest_text, accepted, answer_text, text_of}
use Rattle.listing.proofs.Fits.{refused_fits, chart_fits}
use Rattle.listing.proofs.Accepted.{text_16, text_1}
use Rattle.listing.proofs.Outcomes.{Outcome, outcome}
use Rattle.listing.proofs.Outcomes.Outcome.{is_refused, is_limit, is_used, is_text}

-- a file that the reader accepts is never too long for the program, K counted: 16 refuses no chart
pub file_fits : (K : ℕ) (file : List ℕ) (c : Chart) → Bytes file → chart_in file ≡ returned c → length (K ∷ file) ≤ largest_input
file_fits K file c bytes e = omega (arith, no_larger file c bytes e)

pub text_accepted : (K : ℕ) (file : List ℕ) → length (K ∷ file) ≤ largest_input → text_of (K ∷ file) ≡ answer_text K (accepted K file)
unfolding text_of
text_accepted K file h = rw (le-leb (length (K ∷ file)) largest_input h, text_of)

accepted_fits : (K : ℕ) (file : List ℕ) → Bytes file → length (answer_text K (accepted K file)) ≤ largest_text
accepted_fits K file bytes = go (outcome K file)
  where
    go : Outcome K file → length (answer_text K (accepted K file)) ≤ largest_text
    go (is_refused {n} {p} e a) = rw a (refused_fits n p)
    go (is_limit e h a) = rw a (refused_fits 11 nowhere)
    go (is_used e h l a) = rw a (refused_fits 20 nowhere)
    go (is_text {c} e h l a) =
        let valid = reads_valid file c bytes ((judged_result file bytes c).0 e).reads in
        rw a (chart_fits valid (omega arith) K)

pub text_fits : (input : List ℕ) → Bytes input → length (text_of input) ≤ largest_text
text_fits [] b = rw (text_1 [] (omega arith)) (refused_fits 1 nowhere)
text_fits (K ∷ file) b = go (lt_or_le largest_input (length (K ∷ file)))
  where
    go : (largest_input < length (K ∷ file)) ⊎ (length (K ∷ file) ≤ largest_input) → length (text_of (K ∷ file)) ≤ largest_text
    go (inl l) = rw (text_16 (K ∷ file) l) (refused_fits 16 nowhere)
    go (inr l) = rw (text_accepted K file l) (accepted_fits K file b.1)

-- the program reads no more than that
pub text_of_first : (input : List ℕ) → text_of (take (suc largest_input) input) ≡ text_of input
text_of_first input = go (lt_or_le largest_input (length input))
  where
    go : (largest_input < length input) ⊎ (length input ≤ largest_input) → text_of (take (suc largest_input) input) ≡ text_of input
    go (inl l) =
        let e : length (take (suc largest_input) input) ≡ suc largest_input = length-take-le (suc largest_input) input (omega arith) in
        text_16 (take (suc largest_input) input) (omega arith) ∙ sym (text_16 input l)
    go (inr l) = ap text_of (take_all (suc largest_input) input (omega arith))
