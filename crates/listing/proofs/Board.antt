-- The numbers of a file's chart that a board is enough for, and its refusals, by the four outcomes.
use mathlib.Core.Path.{◌≡◌, refl, sym, ◌∙◌}
use mathlib.Core.List.{List}
use Prim.Native.Nat.{ℕ, ◌≤◌}
use native.Mathlib.Omega.{arith}
use Rattle.model.specs.Answer.{Answer, returned, refused}
use Rattle.model.specs.Chart.{Chart}
use Rattle.model.specs.Spare.{reached_part}
use Rattle.model.specs.FirstFit.{used}
use Rattle.model.proofs.Answers.{not_result, result_refused, result_same, refused_same}
use Rattle.judgement.specs.Judging.{judged_in}
use Rattle.numbering.specs.declared.FileNumbers.{FileNumbers}
use Rattle.numbering.specs.FileNumbers.{file_numbers}
use Rattle.listing.specs.Listing.{accepted, board_numbers}
use Rattle.listing.proofs.Outcomes.{Outcome, outcome}
use Rattle.listing.proofs.Outcomes.Outcome.{is_refused, is_limit, is_used, is_text}

-- the chart whose numbers they are
pub record BoardChart (K : ℕ) (file : List ℕ) (x : FileNumbers) : Type 0 where
  pub chart : Chart
  pub accepted_is : accepted K file ≡ returned chart
  pub numbers_are : x ≡ file_numbers chart

module _ (K : ℕ) (file : List ℕ) where
  -- what is answered
  pub board_answer : {c : Chart} {x : FileNumbers} → accepted K file ≡ returned c → x ≡ file_numbers c → returned x ≡ board_numbers K file
  unfolding board_numbers
  board_answer a e = rw (a, e)

  pub board_refused : {n p : ℕ} → accepted K file ≡ refused n p → refused n p ≡ board_numbers K file
  unfolding board_numbers
  board_refused a = rw a

  -- a chart that is accepted is judged, and its numbers are those of the board
  module _ {c : Chart} (a : accepted K file ≡ returned c) where
    pub accepted_few : used (reached_part c) ≤ 64
    accepted_few = go (outcome K file)
      where
        go : Outcome K file → used (reached_part c) ≤ 64
        go (is_refused e x) = absurd (result_refused a x)
        go (is_limit e h x) = absurd (result_refused a x)
        go (is_used e h l x) = absurd (result_refused a x)
        go (is_text e h l x) = rw (← result_same (sym x ∙ a)) (omega arith)

    pub judged_accepted : judged_in file ≡ returned c
    judged_accepted = go (outcome K file)
      where
        go : Outcome K file → judged_in file ≡ returned c
        go (is_refused e x) = absurd (result_refused a x)
        go (is_limit e h x) = absurd (result_refused a x)
        go (is_used e h l x) = absurd (result_refused a x)
        go (is_text e h l x) = rw (← result_same (sym x ∙ a)) e

  -- and the other way
  pub board_chart : {x : FileNumbers} → returned x ≡ board_numbers K file → BoardChart K file x
  unfolding board_numbers
  board_chart {x} e = go (accepted K file) refl
    where
      go : (y : Answer Chart) → accepted K file ≡ y → BoardChart K file x
      go (returned c) a =
          let f : returned x ≡ returned (file_numbers c) = rw a at e in
          record { chart = c; accepted_is = a; numbers_are = result_same f }
      go (refused n p) a = let f : returned x ≡ refused n p = rw a at e in absurd (not_result (sym f))

  pub refused_board : {n p : ℕ} → refused n p ≡ board_numbers K file → accepted K file ≡ refused n p
  unfolding board_numbers
  refused_board {n} {p} e = go (accepted K file) refl
    where
      go : (y : Answer Chart) → accepted K file ≡ y → accepted K file ≡ refused n p
      go (returned c) a = let f : refused n p ≡ returned (file_numbers c) = rw a at e in absurd (not_result f)
      go (refused m q) a =
          let f : ◌≡◌ {A = Answer FileNumbers} (refused n p) (refused m q) = rw a at e in
          let s = refused_same f in
          rw (s.0, s.1) a
