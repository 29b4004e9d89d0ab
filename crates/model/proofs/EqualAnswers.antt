-- Demand 3 on charts, with nothing left open: a valid chart that is rewritten and what the rewriting returns behave alike, and the player answers
-- alike for both. The parts are put together.
use mathlib.Core.Path.{◌≡◌}
use mathlib.Core.Logic.{⊎_elim}
use mathlib.Core.Bool.{false}
use mathlib.Core.List.{List}
use Prim.Native.Nat.{ℕ, ◌≤◌}
use native.Mathlib.Omega.{arith}
use Rattle.lists.proofs.Bools.{lt_or_le, not_both}
use Rattle.model.specs.Answer.{returned}
use Rattle.model.specs.Chart.{Chart}
use Rattle.model.specs.Valid.{Valid}
use Rattle.model.specs.Spare.{reached_part, spare_cleared}
use Rattle.model.specs.FirstFit.{board, used_by, blocked, used}
use Rattle.model.specs.Rewrite.{Numbering, rewritten_by, board_numbering, rewritten}
use Rattle.model.specs.Plan.{Plan}
use Rattle.model.specs.Judge.{Rewriting, judged, rewriting}
use Rattle.model.specs.Player.{played}
use Rattle.model.proofs.Judgement.{accepted}
use Rattle.model.proofs.SameReached.{turned, plan_there}
use Rattle.model.proofs.ReachedPart.{part_same, part_valid, part_accepted}
use Rattle.model.proofs.SpareCleared.{cleared_same, cleared_valid, cleared_accepted}
use Rattle.model.proofs.BoardPlan.{board_plan, board_blocked}
use Rattle.model.proofs.RewrittenPaths.{same_reached, rewritten_started}
use Rattle.model.proofs.RewrittenValid.{rewritten_valid}
use Rattle.model.proofs.PlayerLaws.{CountsAllowed}
use Rattle.model.proofs.RewritingAlike.{RewritingAlike, rewriting_is, rewriting_alike, rewriting_played}

-- a chart that is rewritten by a plan of at most 64 numbers is judged as the chart: neither 9 nor 10
pub rewritten_judged : (W : ℕ) (c : Chart) (N : Numbering) → Plan c N → Valid W c → N.used ≤ 64 → judged c ≡ returned c
    → judged (rewritten_by N c) ≡ returned (rewritten_by N c)
unfolding rewritten_by
rewritten_judged W c N P valid few e =
    let a = (accepted valid).0 e in
    (accepted (rewritten_valid c N P W valid few)).1 (record {
      reached = λ v q l. (same_reached c N q).0 (a.reached v q l);
      no_unstarted_test = λ i u. rewritten_started c N P i u.transition u.is_nth u.test;
    })

-- the board numbers of a chart that is judged are a plan: those of its part that counts are one for the part
pub judged_plan : {W : ℕ} {c : Chart} → Valid W c → judged c ≡ returned c → Plan c (board_numbering (reached_part c))
judged_plan valid e =
    let a = (accepted (part_valid valid)).0 (part_accepted valid e) in
    plan_there (turned (part_same valid))
    (board_plan (part_valid valid) (λ i r n u. a.no_unstarted_test i (record { transition = r; is_nth = n; test = u })))

-- a chart that the rewriting makes by a plan is judged so too
pub cleared_judged : {W : ℕ} {c : Chart} (N : Numbering) → Valid W c → Plan c N → N.used ≤ 64 → judged c ≡ returned c
    → judged (rewritten_by N (spare_cleared c)) ≡ returned (rewritten_by N (spare_cleared c))
cleared_judged {W} {c} N valid P few e =
    rewritten_judged W (spare_cleared c) N (plan_there (cleared_same valid) P) (cleared_valid valid) few (cleared_accepted valid e)

module _ (W K : ℕ) (c : Chart) (valid : Valid W c) (x : Rewriting) (made : rewriting K c ≡ returned x) where
  plan : Plan c (board_numbering (reached_part c))
  plan = judged_plan valid (rewriting_is K c x made).accepted

  fits : blocked K (board (reached_part c)) ≡ false → used_by (board (reached_part c)) ≤ K
  unfolding used
  fits f = ⊎_elim (λ l. absurd (not_both ((board_blocked K (reached_part c)).1 l) f)) (λ l. l) (lt_or_le K (used_by (board (reached_part c))))

  pub equal_behaviour : RewritingAlike K c x
  equal_behaviour = rewriting_alike W K c valid plan fits x made

  -- the player refuses neither by 9 nor by 10
  pub rewriting_judged : judged x.chart ≡ returned x.chart
  rewriting_judged =
      let e = equal_behaviour in
      let few : (board_numbering (reached_part c)).used ≤ 64 = omega (arith, e.used, e.fits, e.limit) in
      unfold rewritten in (rw e.chart (cleared_judged (board_numbering (reached_part c)) valid plan few (rewriting_is K c x made).accepted))

  pub equal_answers : (v w : List ℕ) → CountsAllowed c v → CountsAllowed x.chart w → (is ts : List ℕ)
      → played c v is ts ≡ played x.chart w is ts
  equal_answers = rewriting_played W K c valid plan fits x made rewriting_judged
