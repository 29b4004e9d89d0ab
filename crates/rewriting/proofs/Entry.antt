-- What the judgement's answer says of the rewriting's: a refusal stands, and a chart that is accepted is fitted.
use mathlib.Core.Path.{◌≡◌}
use mathlib.Core.List.{List}
use Prim.Native.Nat.{ℕ}
use Rattle.model.specs.Answer.{Answer, returned, refused, then}
use Rattle.model.specs.Chart.{Chart}
use Rattle.model.specs.Live.{tested_sets}
use Rattle.file_format.specs.Parse.{Bytes}
use Rattle.file_format.specs.File.{chart_in}
use Rattle.file_format.proofs.File.{reads_storable}
use Rattle.chart_lists.specs.Lists.{Lists, overwritten}
use Rattle.chart_lists.specs.declared.Header.{Header}
use Rattle.chart_lists.specs.Holds.{Holds}
use Rattle.chart_lists.specs.Begins.{Begins}
use Rattle.judgement.specs.Judging.{judged_header}
use Rattle.judgement.specs.Charts.{AcceptedChart}
use Rattle.judgement.proofs.Callers.{judged_refused, judged_chart, accepted_in}
use Rattle.rewriting.specs.Rewriting.{new_file, RewritingValues, values_of, rewrite_into, rewrite_answer}
use Rattle.rewriting.specs.Parts.{fitted_into, JudgedChart}
use Rattle.rewriting.proofs.Order.{into_refused, into_accepted, values_refused, buffer_refused}

-- the chart of a judgement that is no refusal, and where it stands
pub accepted_into : (bs : List ℕ) {m : Header} {l : Lists} {sets : List ℕ} → Bytes bs → returned m ≡ judged_header bs
    → ((c : Chart) → chart_in bs ≡ returned c → Holds c l) → ((c : Chart) → chart_in bs ≡ returned c → Begins (tested_sets c) sets)
    → (a : AcceptedChart bs m) × JudgedChart a.chart m l sets
accepted_into bs bytes e held tested =
    let a = judged_chart bs e in (
      a,
      record {
        header_is = a.header_is;
        accepted = a.accepted;
        storable = reads_storable bs a.chart bytes a.reads;
        held = held a.chart a.reads;
        tested = tested a.chart a.reads;
      },
    )

module _ (K room : ℕ) (bs : List ℕ) where
  module _ {n p : ℕ} (e : refused n p ≡ judged_header bs) where
    pub answer_refused : refused n p ≡ rewrite_answer K room bs
    unfolding rewrite_answer
    answer_refused = values_refused (into_refused K room bs (judged_refused bs e))

    pub lent_refused : (out : List ℕ) → out ≡ overwritten new_file (rewrite_into K room bs) out
    lent_refused = buffer_refused (into_refused K room bs (judged_refused bs e))

  module _ {m : Header} (a : AcceptedChart bs m) where
    pub answer_accepted : {y : Answer RewritingValues} → y ≡ then (fitted_into K room a.chart) (λ x. returned (values_of x))
        → y ≡ rewrite_answer K room bs
    unfolding rewrite_answer
    answer_accepted e = rw (into_accepted K room bs (accepted_in a)) e

    pub lent_accepted : (out : List ℕ) {after : List ℕ} → after ≡ overwritten new_file (fitted_into K room a.chart) out
        → after ≡ overwritten new_file (rewrite_into K room bs) out
    lent_accepted out e = rw (into_accepted K room bs (accepted_in a)) e
