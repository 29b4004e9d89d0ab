-- What the rewriting of a chart returns behaves as the chart, and the player answers alike for both. A result says that none of 9, 10, 11 and 20 was
-- given.
use mathlib.Core.Path.{◌≡◌, refl, sym, ap}
use mathlib.Core.Bool.{false, not}
use mathlib.Core.List.{List}
use Prim.Native.Nat.{ℕ, ◌≤◌}
use native.Mathlib.Omega.{arith}
use lib.Dec.{leb}
use borrow.Author.Tests.{leb-true, not-true}
use Rattle.model.specs.Answer.{Answer, returned, refused, then, unless, nowhere}
use Rattle.model.specs.Chart.{Chart}
use Rattle.model.specs.Valid.{Valid}
use Rattle.model.specs.Spare.{reached_part, spare_cleared}
use Rattle.model.specs.FirstFit.{board, used_by, blocked}
use Rattle.model.specs.Rewrite.{numbering, through, board_numbering, rewritten_by, Numbering, rewritten}
use Rattle.model.specs.Plan.{Plan}
use Rattle.model.specs.Judge.{Rewriting, judged, fitted, rewriting}
use Rattle.model.specs.Player.{played}
use Rattle.model.specs.Equivalence.{Alike}
use Rattle.model.proofs.Answers.{result_same, not_result, unless_result}
use Rattle.model.proofs.SameReached.{plan_there}
use Rattle.model.proofs.SpareCleared.{cleared_same, cleared_storable}
use Rattle.model.proofs.ClearedRuns.{cleared_alike}
use Rattle.model.proofs.EqualRuns.{plan_alike}
use Rattle.model.proofs.RewrittenValid.{rewritten_storable}
use Rattle.model.proofs.PlayerNumbers.{judged_is}
use Rattle.model.proofs.PlayerLaws.{CountsAllowed, alike_played}
pub use Rattle.model.specs.Returned.{NotRefused, RewritingAlike}

pub rewriting_is : (K : ℕ) (c : Chart) (x : Rewriting) → rewriting K c ≡ returned x → NotRefused K c x
unfolding rewriting fitted
rewriting_is K c x e =
    let accepted : judged c ≡ returned c = go (judged c) refl e in
    let rest : fitted K c ≡ returned x = rw accepted at e in
    let one = unless_result (leb K 64) 11 nowhere (unless (not (blocked K (board (reached_part c)))) 20 nowhere (returned made)) rest in
    let two = unless_result (not (blocked K (board (reached_part c)))) 20 nowhere (returned made) one.1 in
    let same : made ≡ x = result_same two.1 in
    record {
      accepted = accepted;
      limit = leb-true K 64 one.0;
      unblocked = not-true (blocked K (board (reached_part c))) two.0;
      used = ap (λ (y : Rewriting). y.used) (sym same);
      chart = ap (λ (y : Rewriting). y.chart) (sym same);
    }
  where
    made : Rewriting
    made = record { used = used_by (board (reached_part c)); chart = rewritten c }

    go : (y : Answer Chart) → judged c ≡ y → then y (fitted K) ≡ returned x → judged c ≡ returned c
    go (returned d) h p = judged_is c h
    go (refused n p) h q = absurd (not_result q)

-- for every plan the chart and the one that the rewriting makes by it behave alike, spare locations and all
pub plan_cleared_alike : {W : ℕ} {c : Chart} (N : Numbering) → Valid W c → Plan c N → Alike c (rewritten_by N (spare_cleared c))
plan_cleared_alike {c = c} N valid P = cleared_alike valid (plan_alike (spare_cleared c) N (plan_there (cleared_same valid) P))

-- with first fit's numbers a plan, and 20 given wherever more than K are used
module _ (W K : ℕ) (c : Chart) (valid : Valid W c) (plan : Plan c (board_numbering (reached_part c)))
    (fits_unblocked : blocked K (board (reached_part c)) ≡ false → used_by (board (reached_part c)) ≤ K) (x : Rewriting)
    (made : rewriting K c ≡ returned x) where
  pub rewriting_alike : RewritingAlike K c x
  unfolding rewritten board_numbering through numbering
  rewriting_alike =
      let y = rewriting_is K c x made in
      let fits : used_by (board (reached_part c)) ≤ K = fits_unblocked y.unblocked in
      record {
        chart = y.chart;
        alike = rw y.chart (plan_cleared_alike (board_numbering (reached_part c)) valid plan);
        used = y.used;
        fits = rw y.used fits;
        limit = y.limit;
        storable = λ s.
            rw y.chart (rewritten_storable (spare_cleared c) (board_numbering (reached_part c)) (plan_there (cleared_same valid) plan)
            (cleared_storable s) (omega (arith, y.limit)));
      }

  -- the player, from counts that 12 allows for each, gives one answer
  pub rewriting_played : judged x.chart ≡ returned x.chart → (v w : List ℕ) → CountsAllowed c v → CountsAllowed x.chart w → (is ts : List ℕ)
      → played c v is ts ≡ played x.chart w is ts
  rewriting_played accepted = alike_played c x.chart rewriting_alike.alike.plays (rewriting_is K c x made).accepted accepted
