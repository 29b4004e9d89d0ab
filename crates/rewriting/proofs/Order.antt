-- The order of the refusals: 1 to 10 of the file, then those of fitting its chart to the board and to the buffer.
use mathlib.Core.Path.{◌≡◌, refl, ap, ◌∙◌}
use mathlib.Core.List.{List}
use Prim.Native.Nat.{ℕ}
use lib.Dec.{leb}
use lib.ListN.{length}
use Rattle.model.specs.Answer.{Answer, returned, refused, then, unless, nowhere}
use Rattle.model.specs.Chart.{Chart}
use Rattle.model.specs.Judge.{Rewriting, judged, fitted, rewriting}
use Rattle.file_format.specs.File.{chart_in, file_of}
use Rattle.chart_lists.specs.Lists.{overwritten}
use Rattle.judgement.specs.Judging.{judged_in}
use Rattle.rewriting.specs.Rewriting.{new_file, values_of, rewrite_into}
use Rattle.rewriting.specs.Parts.{fitted_into}

module _ (K room : ℕ) where
  -- 21 of what is rewritten
  abbrev into_buffer : Rewriting → Answer Rewriting
  into_buffer x = unless (leb (length (file_of x.chart)) room) 21 nowhere (returned x)

  -- what fitting to the board answers decides
  pub fitted_into_lem : (c : Chart) {y : Answer Rewriting} → y ≡ fitted K c → fitted_into K room c ≡ then y into_buffer
  unfolding fitted_into
  fitted_into_lem c e = rw e

  module _ (bs : List ℕ) where
    into_judged : rewrite_into K room bs ≡ then (judged_in bs) (fitted_into K room)
    unfolding rewrite_into judged_in rewriting fitted_into
    into_judged = go (chart_in bs)
      where
        of_chart : (y : Answer Chart) → then (then y (fitted K)) into_buffer ≡ then y (fitted_into K room)
        of_chart (returned d) = refl
        of_chart (refused n p) = refl

        go : (y : Answer Chart) → then y (λ (c : Chart). then (rewriting K c) into_buffer) ≡ then (then y judged) (fitted_into K room)
        go (returned c) = of_chart (judged c)
        go (refused n p) = refl

    pub into_refused : {n p : ℕ} → judged_in bs ≡ refused n p → rewrite_into K room bs ≡ refused n p
    into_refused e = into_judged ∙ ap (λ (y : Answer Chart). then y (fitted_into K room)) e

    pub into_accepted : {c : Chart} → judged_in bs ≡ returned c → rewrite_into K room bs ≡ fitted_into K room c
    into_accepted e = into_judged ∙ ap (λ (y : Answer Chart). then y (fitted_into K room)) e

-- a refusal is the answer, and the buffer stays
module _ {x : Answer Rewriting} {n p : ℕ} (e : x ≡ refused n p) where
  pub values_refused : refused n p ≡ then x (λ z. returned (values_of z))
  values_refused = rw e

  pub buffer_refused : (out : List ℕ) → out ≡ overwritten new_file x out
  buffer_refused out = rw e
