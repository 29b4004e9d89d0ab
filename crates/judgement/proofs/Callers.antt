-- What the judgement's answer says of the file: its refusal, or the file's chart, which it accepts. Every call that judges 1 to 10 cites these.
use mathlib.Core.Path.{◌≡◌, refl, sym, ap, ◌∙◌}
use mathlib.Core.List.{List}
use Prim.Native.Nat.{ℕ}
use Rattle.model.specs.Answer.{Answer, returned, refused, then}
use Rattle.model.specs.Chart.{Chart}
use Rattle.model.specs.Judge.{judged}
use Rattle.model.proofs.Answers.{not_result, result_same, kept_refused}
use Rattle.model.proofs.PlayerNumbers.{judged_is}
use Rattle.file_format.specs.File.{chart_in}
use Rattle.chart_lists.specs.declared.Header.{Header}
use Rattle.chart_lists.specs.Header.{header_of}
use Rattle.judgement.specs.Judging.{judged_in, judged_header}
use Rattle.judgement.specs.Charts.{AcceptedChart}

pub judged_refused : (bs : List ℕ) {n p : ℕ} → refused n p ≡ judged_header bs → judged_in bs ≡ refused n p
unfolding judged_header
judged_refused bs e = kept_refused (judged_in bs) header_of (sym e)

pub judged_chart : (bs : List ℕ) {m : Header} → returned m ≡ judged_header bs → AcceptedChart bs m
unfolding judged_header judged_in
judged_chart bs {m} e = go (chart_in bs) refl
  where
    of : (c : Chart) → chart_in bs ≡ returned c → (y : Answer Chart) → judged c ≡ y → returned m ≡ then y (λ d. returned (header_of d))
        → AcceptedChart bs m
    of c f (returned d) g h =
        let same = judged_is c g in
        record { chart = c; reads = f; accepted = same; header_is = result_same h ∙ ap header_of (result_same (sym g ∙ same)) }
    of c f (refused n p) g h = absurd (not_result (sym h))

    go : (y : Answer Chart) → chart_in bs ≡ y → AcceptedChart bs m
    go (returned c) f = of c f (judged c) refl (rw f at e)
    go (refused n p) f = let z : returned m ≡ refused n p = rw f at e in absurd (not_result (sym z))

-- the same of the whole judgement's definition
pub accepted_in : {bs : List ℕ} {m : Header} → (a : AcceptedChart bs m) → judged_in bs ≡ returned a.chart
unfolding judged_in
accepted_in a = rw a.reads a.accepted

-- a call that goes on by f from the chart that is judged
module _ {A : Type 0} (f : Chart → Answer A) where
  pub accepted_then : {bs : List ℕ} {m : Header} (a : AcceptedChart bs m) → f a.chart ≡ then (judged_in bs) f
  accepted_then a = rw (accepted_in a) refl

  pub refused_then : (bs : List ℕ) {n p : ℕ} → refused n p ≡ judged_header bs → refused n p ≡ then (judged_in bs) f
  refused_then bs e = rw (judged_refused bs e) refl
