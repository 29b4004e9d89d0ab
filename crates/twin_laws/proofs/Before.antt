-- A chart has the families, and with them the numbers and the floor, that it had before twins counted as one timer exactly if no live timer has a
-- lower twin; and if its part that counts is such a chart, the rewriting answers as before. Nothing is hard: each live timer then stands for itself,
-- so the merged sets are the live sets, and what is formed of them is equal. Assumes nothing.
use mathlib.Core.Path.{◌≡◌, refl, sym, ap, ◌∙◌, subst}
use mathlib.Core.Bool.{true, false, not}
use mathlib.Core.Option.{Option, none, some}
use mathlib.Core.List.{List, map-id}
use Prim.Native.Nat.{ℕ}
use native.Mathlib.Nat.{le_antisymm}
use native.Mathlib.Omega.{arith}
use lib.Dec.{leb}
use lib.ListN.{length, get_or, length-map}
use lib.Seq.{ext_get_or}
use Rattle.timer_set.specs.Members.{set_of, members, image}
use Rattle.timer_set.proofs.Members.{set_of_members}
use Rattle.timer_set.proofs.Images.{image_same}
use Rattle.model.specs.Answer.{returned, unless, nowhere}
use Rattle.model.specs.Chart.{Chart}
use Rattle.model.specs.Valid.{Valid}
use Rattle.model.specs.Path.{Live}
use Rattle.model.specs.Live.{live_sets, live, fullest}
use Rattle.model.specs.Spare.{reached_part, spare_cleared}
use Rattle.model.specs.Twins.{lowest_twin, merged_sets}
use Rattle.model.specs.Family.{Pairs, pairs_with, families, live_pairs}
use Rattle.model.specs.FirstFit.{Placed, first_fit, used_by, number_at, blocked, board}
use Rattle.model.specs.SmallestPlan.{fewest}
use Rattle.model.specs.Floor.{most_searched, searched, floor}
use Rattle.model.specs.Rewrite.{Numbering, numbering, rewritten_by, board_numbering, rewritten}
use Rattle.model.specs.Judge.{fitted}
use Rattle.twin_laws.specs.Before.{pairs_before, board_before, searched_before, floor_before, fitted_before, SameAsBefore, NoTwins, NoLowerTwin}
use Rattle.model.proofs.Paths.{live_inside}
use Rattle.model.proofs.LivePaths.{live_iff}
use Rattle.model.proofs.Twins.{twins_refl, live_lowest, lowest_of_twins, live_word, merged_at, pair_lowest, pair_own}
use Rattle.model.proofs.PairNumbers.{number_pair}
use Rattle.model.proofs.ReachedPart.{part_valid}
use Rattle.model.proofs.BoardPlan.{live_pairs_formed, numbering_used, number_iff, live_number}

-- two that have the same number, if any, are equal
same_option : (x y : Option ℕ) → ((k : ℕ) → x ≡ some k → y ≡ some k) → ((k : ℕ) → y ≡ some k → x ≡ some k) → x ≡ y
same_option (some k) y f g = sym (f k refl)
same_option none (some k) f g = g k refl
same_option none none f g = refl

module _ {W : ℕ} {c : Chart} (valid : Valid W c) where
  pub no_twins : NoTwins c → NoLowerTwin c
  no_twins alone q j k l t =
      let m = live_lowest valid l in
      let inside = (live_inside valid l).timer in
      let own = alone j (lowest_twin c j) inside (omega (arith, inside, m.lowest j (twins_refl j))) m.twin in
      omega (arith, own, m.lowest k t)

  module _ (own : NoLowerTwin c) where
    -- a live timer is its own lowest twin
    own_lowest_lem : {q j : ℕ} → Live c q j → lowest_twin c j ≡ j
    own_lowest_lem {q} {j} l = let m = live_lowest valid l in le_antisymm (m.lowest j (twins_refl j)) (own q j (lowest_twin c j) l m.twin)

    same_sets_lem : merged_sets c ≡ live_sets c
    unfolding merged_sets live_sets live image
    same_sets_lem = ext_get_or 0 (merged_sets c) (live_sets c) (length-map (live_sets c) _) (λ q h.
        let word = live_word valid q in
        let w = get_or (live_sets c) q 0 in
        merged_at valid q
        ∙ image_same (lowest_twin c) w word (λ j. j) (λ j m. own_lowest_lem ((live_iff valid q j).0 m))
        ∙ ap set_of (map-id (members w)) ∙ set_of_members w word)

    same_pairs : live_pairs c ≡ pairs_before c
    unfolding live_pairs pairs_before
    same_pairs = ap (pairs_with c) same_sets_lem

    same_board : board c ≡ board_before c
    unfolding board board_before
    same_board = ap first_fit same_pairs

    same_number : (q j : ℕ) → (board_numbering c).number q j ≡ number_at (board c) q j
    unfolding board
    same_number q j = same_option ((board_numbering c).number q j) (number_at (board c) q j)
        (λ k e. let x = (number_iff valid q j k).0 e in ap (number_at (board c) q) (sym (own_lowest_lem x.0)) ∙ x.1)
        (λ k e.
        let x = (pair_lowest valid q j).0 (number_pair (live_pairs_formed valid) q j k e).pair in
        let l : Live c q j = subst (Live c q) (sym (own_lowest_lem x.live) ∙ x.lowest_is) x.live in
        (number_iff valid q j k).1 (l, ap (number_at (board c) q) (own_lowest_lem l) ∙ e))

    same_numbering : board_numbering c ≡ numbering (board_before c)
    unfolding numbering
    same_numbering = (λ i. record { number = λ q j. same_number q j i; used = numbering_used c i }) ∙ ap numbering same_board

    same_searched : searched c ≡ searched_before c
    unfolding searched searched_before
    same_searched = ap (λ (p : Pairs). leb (length (families p)) most_searched) same_pairs

    pub same_as_before : SameAsBefore c
    unfolding floor floor_before
    same_as_before = record {
      same_board = same_board;
      same_numbering = same_numbering;
      same_searched = same_searched;
      same_floor = λ i. elim (same_searched i) [ true ↦ fewest (families (same_pairs i)) | false ↦ fullest (same_sets_lem i) ];
    }

  -- and only then
  pub same_only : SameAsBefore c → NoLowerTwin c
  unfolding numbering board
  same_only same q j k l t =
      let x = live_number valid q j l in
      let as_before = ap (λ (N : Numbering). N.number q j) (sym same.same_numbering) ∙ x.1 in
      let number = ap (λ (ps : List Placed). number_at ps q j) same.same_board ∙ as_before in
      let own = pair_own valid q j (number_pair (live_pairs_formed valid) q j x.0 number).pair in
      omega (arith, own, lowest_of_twins c j k t)

-- what the rewriting answers, by the numbers of the part that counts
pub fitted_as_before : {W : ℕ} {c : Chart} → Valid W c → NoLowerTwin (reached_part c) → (K : ℕ) → fitted K c ≡ fitted_before K c
unfolding fitted fitted_before rewritten
fitted_as_before {c = c} valid own K =
    let same = same_as_before (part_valid valid) own in
    λ i.
    unless (leb K 64) 11 nowhere (
    unless (not (blocked K (same.same_board i))) 20 nowhere (
    returned (record { used = used_by (same.same_board i); chart = rewritten_by (same.same_numbering i) (spare_cleared c) })))
