-- Demand 3 holds of a chart and its rewriting by any plan of at most 64 numbers, and of a file and what the rewriting returns for it. The hard parts
-- are laws of other crates (equal runs, the rewritten chart is accepted, files survive); here they meet.
use mathlib.Core.Path.{◌≡◌, sym, ap, ◌∙◌, subst}
use mathlib.Core.List.{List}
use Prim.Native.Nat.{ℕ, ◌≤◌}
use lib.ListN.{length, get_or}
use Rattle.model.specs.Answer.{returned}
use Rattle.model.specs.Chart.{Chart}
use Rattle.model.specs.Version.{width_of}
use Rattle.model.specs.Valid.{Storable}
use Rattle.model.specs.Spare.{spare_cleared}
use Rattle.model.specs.Rewrite.{Numbering, rewritten_by}
use Rattle.model.specs.Plan.{Plan}
use Rattle.model.specs.Judge.{Rewriting, judged, rewriting}
use Rattle.model.specs.Equivalence.{Alike}
use Rattle.file_format.specs.Parse.{Bytes}
use Rattle.model.proofs.Answers.{result_same}
use Rattle.model.proofs.SameReached.{plan_there}
use Rattle.model.proofs.SpareCleared.{cleared_same, cleared_storable}
use Rattle.model.proofs.RewrittenValid.{rewritten_storable}
use Rattle.model.proofs.RewritingAlike.{rewriting_is, plan_cleared_alike}
use Rattle.model.proofs.EqualAnswers.{cleared_judged, equal_behaviour, rewriting_judged}
use Rattle.model.specs.Player.{steps_of}
use Rattle.model.specs.PlayerTerms.{CountsAllowed, PlayerAnswer}
use Rattle.model.proofs.PlayerLaws.{played_answer, alike_played}
use Rattle.model.proofs.PlayerAnswer.{player_answer}
use Rattle.file_format.specs.File.{chart_in, file_of}
use Rattle.file_format.proofs.File.{chart_survives, file_survives, reads_storable}
use Rattle.rewriting.specs.Rewriting.{rewrite_into}
use Rattle.rewriting.proofs.Fits.{rewriting_of_lem}
use Rattle.player.specs.Playing.{play_answer}
use Rattle.equivalence.specs.Demand.{Demand}

-- the player on the file of a chart that it takes
file_answers : (c : Chart) → Storable c → judged c ≡ returned c → (v is ts : List ℕ) → CountsAllowed c v → length is ≡ length ts
    → PlayerAnswer c (λ j. get_or v j 0) (steps_of is ts) (play_answer (file_of c) v is ts)
unfolding play_answer
file_answers c s j v is ts a l = rw (chart_survives c s, played_answer c v j a is ts l) (player_answer c (λ k. get_or v k 0) (steps_of is ts))

-- two charts that behave alike and that the player takes
demand_of : (c c' : Chart) → Storable c → judged c ≡ returned c → Alike c c' → Storable c' → judged c' ≡ returned c' → Demand c c'
unfolding play_answer
demand_of c c' s j alike s' j' = record {
  alike = alike;
  storable = s';
  judged_so = j';
  plays = λ v w is ts a b. rw (chart_survives c s, chart_survives c' s') (alike_played c c' alike.plays j j' v w a b is ts);
  answers = file_answers c s j;
  answers' = file_answers c' s' j';
}

-- every numbering that is a plan of the chart
pub plan_demand : (c : Chart) (N : Numbering) → Storable c → judged c ≡ returned c → Plan c N → N.used ≤ 64
    → Demand c (rewritten_by N (spare_cleared c))
plan_demand c N s j P few =
    demand_of c (rewritten_by N (spare_cleared c)) s j (plan_cleared_alike N s.valid P)
    (rewritten_storable (spare_cleared c) N (plan_there (cleared_same s.valid) P) (cleared_storable s) few) (cleared_judged N s.valid P few j)

-- a file, the chart that it holds, and what the rewriting returns for it
module _ (K room : ℕ) (bs : List ℕ) (bytes : Bytes bs) (c : Chart) (reads : chart_in bs ≡ returned c) (x : Rewriting)
    (e : rewrite_into K room bs ≡ returned x) where
  -- it is the rewriting of that chart
  pub made : rewriting K c ≡ returned x
  made = let o = rewriting_of_lem K room bs x e in
      subst (λ (d : Chart). rewriting K d ≡ returned x) (result_same (sym o.reads ∙ reads)) o.made

  pub first_fit_demand : Demand c x.chart
  first_fit_demand =
      let s = reads_storable bs c bytes reads in
      let b = equal_behaviour (width_of c.version) K c s.valid x made in
      demand_of c x.chart s (rewriting_is K c x made).accepted b.alike (b.storable s)
      (rewriting_judged (width_of c.version) K c s.valid x made)

  -- the player gives one answer on the bytes of the file and on those that came back
  pub first_fit_plays : (v w is ts : List ℕ) → CountsAllowed c v → CountsAllowed x.chart w
      → play_answer bs v is ts ≡ play_answer (file_of x.chart) w is ts
  first_fit_plays v w is ts a b =
      ap (λ (y : List ℕ). play_answer y v is ts) (sym (file_survives bs c bytes reads)) ∙ first_fit_demand.plays v w is ts a b

  -- and on the bytes of the file, too, it is what the step list comes to
  pub first_fit_answers : (v is ts : List ℕ) → CountsAllowed c v → length is ≡ length ts
      → PlayerAnswer c (λ j. get_or v j 0) (steps_of is ts) (play_answer bs v is ts)
  first_fit_answers v is ts a l = rw (file_survives bs c bytes reads) at (first_fit_demand.answers v is ts a l)
