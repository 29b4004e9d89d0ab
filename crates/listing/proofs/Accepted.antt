-- Which text an input has, by the judgement of its chart file: 11, then 20, else the chart's text. All by cases.
use mathlib.Core.Path.{◌≡◌, refl, sym, ◌∙◌}
use mathlib.Core.Bool.{false}
use mathlib.Core.List.{List, [], ◌∷◌}
use Prim.Native.Nat.{ℕ, ◌≤◌, ◌<◌}
use native.Mathlib.Omega.{arith}
use lib.ListN.{length}
use borrow.Author.Tests.{le-leb, lt-leb}
use Rattle.std.proofs.Common.{Ok, Err}
use Rattle.lists.proofs.Bools.{is_no}
use Rattle.model.specs.Answer.{Answer, returned, refused, then, nowhere}
use Rattle.model.specs.Chart.{Chart}
use Rattle.model.specs.Spare.{reached_part}
use Rattle.model.specs.FirstFit.{blocked, board, used}
use Rattle.model.specs.Judge.{judged, fitted, rewriting}
use Rattle.model.proofs.Answers.{result_same}
use Rattle.model.proofs.BoardPlan.{board_blocked}
use Rattle.model.proofs.PlayerNumbers.{judged_is}
use Rattle.file_format.specs.File.{chart_in}
use Rattle.judgement.specs.Judging.{judged_in}
use Rattle.refusal.specs.Refused.{refused_as}
use Rattle.refusal.specs.declared.Refusal.{Refusal}
use Rattle.numbering.specs.Limits.{LimitJudged}
use Rattle.listing.specs.Listing.{largest_input, accepted, listed_chart, answer_text, refused_text, text_of}

module _ (K : ℕ) (c : Chart) where
  pub listed_11 : 64 < K → listed_chart K c ≡ refused 11 nowhere
  unfolding listed_chart fitted
  listed_11 h = rw (lt-leb K 64 h)

  module _ (h : K ≤ 64) where
    pub listed_20 : K < used (reached_part c) → listed_chart K c ≡ refused 20 nowhere
    unfolding listed_chart fitted
    listed_20 l = rw (le-leb K 64 h, (board_blocked K (reached_part c)).1 l)

    pub listed_text : used (reached_part c) ≤ K → listed_chart K c ≡ returned c
    unfolding listed_chart fitted
    listed_text l =
        let placed = board (reached_part c) in
        let e : blocked K placed ≡ false = is_no (blocked K placed) (λ t. omega (arith, (board_blocked K (reached_part c)).0 t)) in
        rw (le-leb K 64 h, e)

  -- the same as the code judges them
  pub listed_refused : {u : ℕ} {f : Refusal} → LimitJudged K u (Err f) → u ≡ used (reached_part c) → listed_chart K c ≡ refused_as f
  unfolding listed_chart
  listed_refused j e = rw (← j.answer c e)

  pub listed_enough : {u : ℕ} → LimitJudged K u (Ok tt) → u ≡ used (reached_part c) → listed_chart K c ≡ returned c
  unfolding listed_chart
  listed_enough j e = rw (← j.answer c e)

-- the judgement first, then 11 and 20
accepted_is : (K : ℕ) (file : List ℕ) → accepted K file ≡ then (judged_in file) (listed_chart K)
unfolding accepted judged_in rewriting listed_chart
accepted_is K file = go (chart_in file) refl
  where
    of : (c : Chart) (y : Answer Chart) → judged c ≡ y → then (then (judged c) (fitted K)) (λ x. returned c) ≡ then (judged c) (listed_chart K)
    of c (returned d) e = let same : d ≡ c = result_same (sym e ∙ judged_is c e) in rw (e, same)
    of c (refused n p) e = rw e

    go : (y : Answer Chart) → chart_in file ≡ y
        → then (chart_in file) (λ c. then (then (judged c) (fitted K)) (λ x. returned c)) ≡ then (then (chart_in file) judged) (listed_chart K)
    go (returned c) e = rw e (of c (judged c) refl)
    go (refused n p) e = rw e

module _ (K : ℕ) (file : List ℕ) where
  pub accepted_refused : {n p : ℕ} → judged_in file ≡ refused n p → accepted K file ≡ refused n p
  accepted_refused e = accepted_is K file ∙ rw e

  pub accepted_judged : {c : Chart} → judged_in file ≡ returned c → accepted K file ≡ listed_chart K c
  accepted_judged e = accepted_is K file ∙ rw e

-- ---- the whole input

pub text_file : {input : List ℕ} (K : ℕ) (file : List ℕ) → input ≡ K ∷ file → length input ≤ largest_input
    → text_of input ≡ answer_text K (accepted K file)
unfolding text_of
text_file K file e l = rw e (rw (le-leb (length (K ∷ file)) largest_input (rw e at l), text_of))

pub text_16 : (input : List ℕ) → largest_input < length input → text_of input ≡ refused_text 16 nowhere
unfolding text_of
text_16 [] h = absurd (omega arith)
text_16 (K ∷ file) h = rw (lt-leb (length (K ∷ file)) largest_input h, text_of)

pub text_1 : (input : List ℕ) → length input ≡ 0 → text_of input ≡ refused_text 1 nowhere
unfolding text_of
text_1 [] h = refl
text_1 (K ∷ file) h = absurd (omega arith)
