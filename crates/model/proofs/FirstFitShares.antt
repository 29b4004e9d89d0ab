-- The board numbers of first fit keep the sharing rule, and 20 is given exactly where all K numbers are held by earlier families that the family of
-- some pair meets. Hard: an earlier family by chains of transitions is one that was placed before: the family numbers of the placed ones fall.
use mathlib.Core.Path.{◌≡◌, refl, sym, ap, ◌∙◌}
use mathlib.Core.Logic.{◌↔◌, ⊎_elim}
use mathlib.Core.Bool.{true}
use mathlib.Core.Option.{some}
use Prim.Native.Nat.{ℕ, zero, suc, ◌<◌}
use native.Mathlib.Omega.{arith}
use Rattle.lists.proofs.Bools.{lt_or_le}
use Rattle.model.specs.Chart.{Chart}
use Rattle.model.specs.Valid.{Valid}
use Rattle.model.specs.Twins.{TwinLive, lowest_twin}
use Rattle.model.specs.Family.{Pairs, live_pairs, WellFormed}
use Rattle.model.specs.FirstFit.{first_fit, number_at, blocked, board, used}
use Rattle.model.specs.Placing.{PairNumber}
use Rattle.model.specs.Rewrite.{Numbering, board_numbering}
use Rattle.model.specs.Plan.{Has}
use Rattle.model.specs.SharingRule.{HeldEarlier, SharingRule, AllNumbersHeld}
use Rattle.model.proofs.PairNumbers.{first_fit_fitted, placed_family, number_pair, joined_same}
use Rattle.model.proofs.PlacedOnce.{first_fit_falling}
use Rattle.model.proofs.EarlierFamilies.{HeldLower, lower_free, lower_holds}
use Rattle.model.proofs.Twins.{live_itself, same_lowest, pair_twin}
use Rattle.model.proofs.LivePairs.{live_pairs_formed, joined_iff}
use Rattle.model.proofs.FamilyNumbers.{live_family, meet_sym, earlier_iff, meets_iff}
use Rattle.model.proofs.BoardPlan.{number_iff, number_live, live_number, number_under, board_blocked, numbering_used}
use Rattle.model.proofs.UsedNumbers.{live_family_number, used_reached}

module _ {W : ℕ} {c : Chart} (valid : Valid W c) where
  abbrev pairs : Pairs
  pairs = live_pairs c

  abbrev N : Numbering
  N = board_numbering c

  formed : WellFormed pairs
  formed = live_pairs_formed valid

  -- a timer's number is that of its family
  number_of : (q j k : ℕ) → Has N q j k → PairNumber pairs q (lowest_twin c j) k
  unfolding board
  number_of q j k e = number_pair formed q (lowest_twin c j) k ((number_iff valid q j k).0 e).1

  pair : (q j k : ℕ) → Has N q j k → TwinLive c q j
  pair q j k e = live_itself (number_live valid q j k e)

  not_held : (q j k : ℕ) → Has N q j k → HeldEarlier c N q j k → ⊥
  not_held q j k e h =
      let a = number_of q j k e in
      let b = number_of h.location h.timer k h.number in
      let l = pair q j k e in
      let l' = pair h.location h.timer k h.number in
      lower_free _ (first_fit pairs) (first_fit_falling formed) (first_fit_fitted pairs) a.place b.place a.is_nth b.is_nth
      (rw (a.family, b.family) ((earlier_iff valid h.location h.timer q j l' l).1 h.earlier))
      (rw (a.family, b.family) ((meets_iff valid q j h.location h.timer l l').1 (meet_sym h.meet)))
      (b.number ∙ sym a.number)

  smaller_held : (q j k m : ℕ) → Has N q j k → m < k → HeldEarlier c N q j m
  smaller_held q j k m e l = let a = number_of q j k e in go a (lower_holds _ (first_fit pairs) (first_fit_falling formed)
      (first_fit_fitted pairs) a.place a.is_nth m (rw (sym a.number) at l))
    where
      go : (a : PairNumber pairs q (lowest_twin c j) k) → HeldLower (first_fit pairs) a.placed m → HeldEarlier c N q j m
      go a x =
          let b = x.by in
          let f = b.holder.family in
          let o = live_family valid f (placed_family formed b.place b.holder b.is_nth) in
          let l = pair q j k e in
          let l' = live_itself o.live in
          record {
            location = f.first;
            timer = o.timer;
            earlier = (earlier_iff valid f.first o.timer q j l' l).0 (rw (← o.whole, ← a.family) x.lower);
            meet = meet_sym ((meets_iff valid q j f.first o.timer l l').0 (rw (← o.whole, ← a.family) b.met));
            number = live_family_number valid b.place b.holder b.is_nth o ∙ ap (λ (n : ℕ). some n) b.number;
          }

  pub first_fit_shares : SharingRule c N
  unfolding board
  first_fit_shares = record {
    numbered = live_number valid;
    live = number_live valid;
    one_number = λ q s j i k a t l e. (number_iff valid s i k).1 (
      l,
      ap (number_at (board c) s) (sym (same_lowest c t))
          ∙ sym (joined_same formed ((pair_twin valid q j).1 a.pair) ((joined_iff valid j q s a.pair).1 a))
          ∙ ((number_iff valid q j k).0 e).1,
    );
    free = not_held;
    smaller_held = smaller_held;
    used_above = number_under c;
    used_reached = used_reached valid;
  }

  -- 20 in the words of the rule
  pub blocked_iff_held : (K : ℕ) → (blocked K (board c) ≡ true) ↔ AllNumbersHeld K c N
  unfolding used
  blocked_iff_held K = (λ h. all_held_lem (used c) refl ((board_blocked K c).0 h), λ h. (board_blocked K c).1 (over h))
    where
      all_held_lem : (u : ℕ) → used c ≡ u → K < used c → AllNumbersHeld K c N
      all_held_lem zero e h = absurd (omega arith)
      all_held_lem (suc u) e h =
          let x = first_fit_shares.used_reached u (numbering_used c ∙ e) in
          record {
            location = x.0;
            timer = x.1;
            pair = first_fit_shares.live x.0 x.1 u x.2;
            held = λ k l. first_fit_shares.smaller_held x.0 x.1 u k x.2 (omega arith);
          }

      over : AllNumbersHeld K c N → K < used c
      over h =
          let x = first_fit_shares.numbered h.location h.timer h.pair in
          let b = first_fit_shares.used_above h.location h.timer x.0 x.1 in
          ⊎_elim
          (λ l. absurd (first_fit_shares.free h.location h.timer x.0 x.1 (h.held x.0 l)))
          (λ l. omega (arith, numbering_used c))
          (lt_or_le x.0 K)
