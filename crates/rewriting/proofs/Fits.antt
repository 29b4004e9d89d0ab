-- The board that is asked for: what the rewriting returns names timers below used alone, used is at most K and K at most 64, and its file is read as
-- the rewritten chart. Laws of the model meet those of files.
use mathlib.Core.Path.{◌≡◌, ◌∙◌}
use mathlib.Core.List.{List}
use Prim.Native.Nat.{ℕ}
use lib.Dec.{leb}
use lib.ListN.{length}
use Rattle.model.specs.Answer.{returned, nowhere}
use Rattle.model.specs.Version.{width_of}
use Rattle.model.specs.Valid.{Storable}
use Rattle.model.specs.Spare.{reached_part, spare_cleared}
use Rattle.model.specs.Rewrite.{board_numbering, rewritten}
use Rattle.model.specs.Judge.{Rewriting, rewriting}
use Rattle.model.proofs.SameReached.{plan_there}
use Rattle.model.proofs.SpareCleared.{cleared_same}
use Rattle.model.proofs.RewrittenValid.{names_below}
use Rattle.model.proofs.RewritingAlike.{rewriting_is}
use Rattle.model.proofs.EqualAnswers.{judged_plan, equal_behaviour}
use Rattle.file_format.specs.Parse.{Bytes}
use Rattle.file_format.specs.File.{chart_in, file_of}
use Rattle.file_format.proofs.Answers.{then_result, unless_result}
use Rattle.file_format.proofs.File.{reads_storable, chart_survives}
use Rattle.rewriting.specs.Rewriting.{rewrite_into}
use Rattle.rewriting.specs.Returned.{RewritingOf, FitsBoard}

pub rewriting_of_lem : (K room : ℕ) (bs : List ℕ) (x : Rewriting) → rewrite_into K room bs ≡ returned x → RewritingOf K bs x
unfolding rewrite_into
rewriting_of_lem K room bs x e =
    let a = then_result (chart_in bs) _ e in
    let b = then_result (rewriting K a.0) _ a.2 in
    let d = unless_result (leb (length (file_of b.0.chart)) room) 21 nowhere (returned b.0) b.2 in
    record { chart = a.0; reads = a.1; made = b.1 ∙ d.1 }

module _ {K : ℕ} {bs : List ℕ} (bytes : Bytes bs) {x : Rewriting} (o : RewritingOf K bs x) where
  storable_chart : Storable o.chart
  storable_chart = reads_storable bs o.chart bytes o.reads

  rewriting_fits : FitsBoard K x
  unfolding rewritten
  rewriting_fits =
      let c = o.chart in
      let b = equal_behaviour (width_of c.version) K c storable_chart.valid x o.made in
      let plan = judged_plan storable_chart.valid (rewriting_is K c x o.made).accepted in
      let s = b.storable storable_chart in
      record {
        names_below = rw (b.chart, b.used)
            (names_below (spare_cleared c) (board_numbering (reached_part c)) (plan_there (cleared_same storable_chart.valid) plan));
        fits = b.fits;
        limit = b.limit;
        storable = s;
        read_again = chart_survives x.chart s;
      }

pub answer_fits : (K room : ℕ) (bs : List ℕ) → Bytes bs → (x : Rewriting) → rewrite_into K room bs ≡ returned x → FitsBoard K x
answer_fits K room bs bytes x e = rewriting_fits bytes (rewriting_of_lem K room bs x e)
