-- The counter board's claim holds of a chart and its rewriting by any plan of at most 64 numbers, and of a file and what the rewriting returns for
-- it. Demand 3 says that both charts behave alike, and the laws of the counter board take it from there.
use mathlib.Core.Path.{◌≡◌, sym, ap, ◌∙◌}
use mathlib.Core.Bool.{false}
use mathlib.Core.List.{List}
use Prim.Native.Nat.{ℕ, ◌≤◌}
use native.Mathlib.Omega.{arith}
use Rattle.model.specs.Answer.{returned}
use Rattle.model.specs.Chart.{Chart}
use Rattle.model.specs.Version.{width_of, large_constant}
use Rattle.model.specs.Valid.{Storable}
use Rattle.model.specs.Spare.{reached_part, spare_cleared}
use Rattle.model.specs.Rewrite.{Numbering, rewritten_by, rewritten, board_numbering}
use Rattle.model.specs.Plan.{Plan}
use Rattle.model.specs.Judge.{Rewriting, judged}
use Rattle.model.proofs.Versions.{storable_iff}
use Rattle.model.proofs.RewritingAlike.{rewriting_is}
use Rattle.model.proofs.EqualAnswers.{judged_plan, equal_behaviour}
use Rattle.file_format.specs.Parse.{Bytes}
use Rattle.file_format.specs.File.{chart_in, file_of}
use Rattle.file_format.proofs.File.{chart_survives, reads_storable}
use Rattle.rewriting.specs.Rewriting.{rewrite_into}
use Rattle.counter_model.specs.Constants.{LargeReached, LargeSpare}
use Rattle.counter_model.specs.CounterClaim.{Spaced, SpacedAfterFirst}
use Rattle.counter_model.proofs.ChartClaim.{any_counts}
use Rattle.counter_model.proofs.FileClaim.{alike_claim, same_on_counter, with_first}
use Rattle.counter_model.proofs.RewrittenConstants.{large_kept, small_cleared, large_both_iff}
use Rattle.equivalence.specs.Demand.{Demand}
use Rattle.equivalence.specs.CounterDemand.{CounterDemand}
use Rattle.equivalence.proofs.DemandHolds.{plan_demand, made, first_fit_demand}

-- a file, and one of a chart that demand 3 holds of and that has no large constant where the file's has none
module _ (bs : List ℕ) (c : Chart) (reads : chart_in bs ≡ returned c) (s : Storable c) (j : judged c ≡ returned c) (c' : Chart) (d : Demand c c')
    (small' : large_constant c ≡ false → large_constant c' ≡ false)
    (large : (LargeSpare c → LargeReached c) → large_constant c ≡ large_constant c') where
  counter_of : CounterDemand SpacedAfterFirst bs c (file_of c') c'
  counter_of =
      let reads' = chart_survives c' d.storable in
      let valid' = d.storable.valid in
      record {
        drawn = λ small. alike_claim bs bs c c reads reads j j s.valid small (any_counts c s.valid j).1;
        rewritten = λ small. alike_claim bs (file_of c') c c' reads reads' j d.judged_so valid' (small' small) d.alike.plays;
        alike = λ none. same_on_counter bs (file_of c') c c' reads reads' j d.judged_so valid' (large none) d.alike.answers;
      }

-- every numbering that is a plan of the chart
pub plan_counter : (c : Chart) (N : Numbering) → Storable c → judged c ≡ returned c → Plan c N → N.used ≤ 64
    → CounterDemand SpacedAfterFirst (file_of c) c (file_of (rewritten_by N (spare_cleared c))) (rewritten_by N (spare_cleared c))
plan_counter c N s j P few =
    let wide = ((storable_iff c).0 s).valid in
    counter_of (file_of c) c (chart_survives c s) s j (rewritten_by N (spare_cleared c)) (plan_demand c N s j P few)
    (λ small. large_kept c N P wide few ∙ small_cleared wide small) (large_both_iff c N P wide few).1

-- a file, the chart that it holds, and what the rewriting returns for it
module _ (K room : ℕ) (bs : List ℕ) (bytes : Bytes bs) (c : Chart) (reads : chart_in bs ≡ returned c) (x : Rewriting)
    (e : rewrite_into K room bs ≡ returned x) where
  pub first_fit_counter : CounterDemand SpacedAfterFirst bs c (file_of x.chart) x.chart
  unfolding rewritten
  first_fit_counter =
      let s = reads_storable bs c bytes reads in
      let m = made K room bs bytes c reads x e in
      let j = (rewriting_is K c x m).accepted in
      let b = equal_behaviour (width_of c.version) K c s.valid x m in
      let N = board_numbering (reached_part c) in
      let few : N.used ≤ 64 = omega (arith, b.used, b.fits, b.limit) in
      let P = judged_plan s.valid j in
      let wide = ((storable_iff c).0 s).valid in
      counter_of bs c reads s j x.chart (first_fit_demand K room bs bytes c reads x e)
      (λ small. ap large_constant b.chart ∙ large_kept c N P wide few ∙ small_cleared wide small)
      (λ none. (large_both_iff c N P wide few).1 none ∙ ap large_constant (sym b.chart))

  -- with document 02's provisos
  pub first_fit_counter_spaced : CounterDemand Spaced bs c (file_of x.chart) x.chart
  first_fit_counter_spaced = let w = first_fit_counter in
      record { drawn = λ small. with_first (w.drawn small); rewritten = λ small. with_first (w.rewritten small); alike = w.alike }
