-- Which refusals the analysis returns: 1 to 10 are those of the judgement, 21 comes exactly where an accepted chart has more locations than the list
-- has entries; else the chart's values; a file of version 3 is never refused 9. All by the three answers there are.
use mathlib.Core.Path.{◌≡◌, refl, sym, ap, ap₂, ◌∙◌}
use mathlib.Core.Logic.Iff
use mathlib.Core.Logic.{◌⊎◌, inl, inr, ◌↔◌}
use mathlib.Core.Option.{some}
use mathlib.Core.List.{List}
use Prim.Native.Nat.{ℕ, ◌≤◌, ◌<◌}
use native.Mathlib.Omega.{arith}
use lib.ListN.{get_elem?}
use Rattle.file_format.specs.Parse.{Bytes}
use Rattle.lists.proofs.Bools.{lt_or_le}
use Rattle.model.specs.Answer.{Answer, returned, refused, nowhere}
use Rattle.model.specs.Chart.{Chart}
use Rattle.model.proofs.Answers.{not_result, result_same, refused_same}
use Rattle.model.specs.Places.{LowestUnreached, LowestUnstarted, HasUnreached}
use Rattle.file_format.specs.File.{chart_in}
use Rattle.judgement.specs.Judging.{judged_in}
use Rattle.judgement.specs.Charts.{HoldsChart, Accepts}
use Rattle.judgement.proofs.Corollaries.{judged_numbers, judged_9, judged_10, judged_1_to_8, judged_result, refusals_of_judged_in}
use Rattle.judgement.proofs.Corollaries.{somewhere, unreached_in_lem, never_unreached}
use Rattle.analysis.specs.declared.Analysis.{Analysis}
use Rattle.analysis.specs.Analysing.{values_of, analysed_in, analyse_answer}
use Rattle.analysis.specs.Found.{Analysed}
use Rattle.analysis.specs.Refusals.{RefusalOfAnalysis, TooShort}
use Rattle.analysis.specs.Refusals.RefusalOfAnalysis.{of_judgement, of_short_list}
use Rattle.analysis.proofs.Entry.{short, long_enough_lem}

-- what the analysis can answer
data AnalysisOf (room : ℕ) (bs : List ℕ) : Type 0 where
  is_refused : (n p : ℕ) → judged_in bs ≡ refused n p → analyse_answer room bs ≡ refused n p → AnalysisOf room bs
  is_short : (c : Chart) → judged_in bs ≡ returned c → room < c.locations → analyse_answer room bs ≡ refused 21 nowhere → AnalysisOf room bs
  is_found : (c : Chart) → judged_in bs ≡ returned c → c.locations ≤ room → analyse_answer room bs ≡ returned (values_of c) → AnalysisOf room bs

module _ (room : ℕ) (bs : List ℕ) where
  analysis_cases : AnalysisOf room bs
  unfolding analyse_answer analysed_in
  analysis_cases = go (judged_in bs) refl
    where
      of : (c : Chart) → judged_in bs ≡ returned c → (room < c.locations) ⊎ (c.locations ≤ room) → AnalysisOf room bs
      of c e (inl h) = is_short c e h (rw (e, short c room h))
      of c e (inr h) = is_found c e h (rw (e, long_enough_lem c room h))

      go : (x : Answer Chart) → judged_in bs ≡ x → AnalysisOf room bs
      go (returned c) e = of c e (lt_or_le room c.locations)
      go (refused n p) e = is_refused n p e (rw e)

  -- 1 to 10 are those of the judgement
  of_judged : (n p : ℕ) → n ≤ 10 → (analyse_answer room bs ≡ refused n p) ↔ (judged_in bs ≡ refused n p)
  of_judged n p h = go analysis_cases
    where
      go : AnalysisOf room bs → (analyse_answer room bs ≡ refused n p) ↔ (judged_in bs ≡ refused n p)
      go (is_refused m q e f) = (
        λ x. let s = refused_same (sym f ∙ x) in e ∙ ap₂ refused s.0 s.1,
        λ x. let s = refused_same (sym e ∙ x) in f ∙ ap₂ refused s.0 s.1,
      )
      go (is_short c e l f) = (λ x. absurd (omega (arith, (refused_same (sym f ∙ x)).0)), λ x. absurd (not_result (sym x ∙ e)))
      go (is_found c e l f) = (λ x. absurd (not_result (sym x ∙ f)), λ x. absurd (not_result (sym x ∙ e)))

  module _ (bytes : Bytes bs) where
    -- no other number comes, and each has its place
    pub refusals_of_analysis : (n p : ℕ) → analyse_answer room bs ≡ refused n p → RefusalOfAnalysis n p
    refusals_of_analysis n p x = go analysis_cases
      where
        go : AnalysisOf room bs → RefusalOfAnalysis n p
        go (is_refused m q e f) = let s = refused_same (sym f ∙ x) in of_judgement (refusals_of_judged_in bs bytes n p (e ∙ ap₂ refused s.0 s.1))
        go (is_short c e l f) = let s = refused_same (sym f ∙ x) in of_short_list (sym s.0) (sym s.1)
        go (is_found c e l f) = absurd (not_result (sym x ∙ f))

    -- 17 is the writer's, 18 the counter board's
    pub never_17_or_18 : (n p : ℕ) → 17 ≤ n → n ≤ 18 → analyse_answer room bs ≡ refused n p → ⊥
    never_17_or_18 n p lo hi x = go (refusals_of_analysis n p x)
      where
        go : RefusalOfAnalysis n p → ⊥
        go (of_judgement r) = omega (arith, (judged_numbers r).1)
        go (of_short_list e f) = omega (arith, e)

    pub analysis_1_to_8 : (n p : ℕ) → n ≤ 8 → (analyse_answer room bs ≡ refused n p) ↔ (chart_in bs ≡ refused n p)
    analysis_1_to_8 n p h = Iff.trans (of_judged n p (omega arith)) (judged_1_to_8 bs bytes n p h)

    -- 9 at the lowest location that no path reaches, in a chart of a version that allows none
    pub analysis_9 : (q : ℕ) → (analyse_answer room bs ≡ refused 9 q) ↔ HoldsChart bs (λ c. LowestUnreached c q)
    analysis_9 q = Iff.trans (of_judged 9 q (omega arith)) (judged_9 bs bytes q)

    -- 9 wherever the version is below 3 and some location is not reached, and in no file of version 3
    pub analysis_9_when : ((q : ℕ) × (analyse_answer room bs ≡ refused 9 q)) ↔ HoldsChart bs HasUnreached
    analysis_9_when = Iff.trans (somewhere analysis_9) (unreached_in_lem bs bytes)

    pub analysis_never_9 : get_elem? bs 0 ≡ some 3 → (q : ℕ) → analyse_answer room bs ≡ refused 9 q → ⊥
    analysis_never_9 v q e = never_unreached bs bytes v (analysis_9_when.0 (q, e))

    pub analysis_10 : (i : ℕ) → (analyse_answer room bs ≡ refused 10 i) ↔ HoldsChart bs (λ c. LowestUnstarted c i)
    analysis_10 i = Iff.trans (of_judged 10 i (omega arith)) (judged_10 bs bytes i)

    -- the chart that is accepted is the judged one
    same_chart : {c d : Chart} → judged_in bs ≡ returned c → Accepts bs d → c ≡ d
    same_chart {d = d} e a = result_same (sym e ∙ (judged_result bs bytes d).1 a)

    pub analysis_21 : (analyse_answer room bs ≡ refused 21 nowhere) ↔ TooShort room bs
    analysis_21 = (λ x. out x analysis_cases, λ t. back t analysis_cases)
      where
        out : analyse_answer room bs ≡ refused 21 nowhere → AnalysisOf room bs → TooShort room bs
        out x (is_refused m q e f) = absurd (omega (arith, (refused_same (sym f ∙ x)).0, (judged_numbers (refusals_of_judged_in bs bytes m q e)).1))
        out x (is_short c e l f) = record { chart = c; accepts = (judged_result bs bytes c).0 e; more = l }
        out x (is_found c e l f) = absurd (not_result (sym x ∙ f))

        back : TooShort room bs → AnalysisOf room bs → analyse_answer room bs ≡ refused 21 nowhere
        back t (is_refused m q e f) = absurd (not_result (sym e ∙ (judged_result bs bytes t.chart).1 t.accepts))
        back t (is_short c e l f) = f
        back t (is_found c e l f) = absurd (omega (arith, ap (λ (d : Chart). d.locations) (same_chart e t.accepts), t.more))

    pub analysis_result : (g : Analysis) → (analyse_answer room bs ≡ returned g) ↔ Analysed room bs g
    analysis_result g = (λ x. out x analysis_cases, λ a. back a analysis_cases)
      where
        out : analyse_answer room bs ≡ returned g → AnalysisOf room bs → Analysed room bs g
        out x (is_refused m q e f) = absurd (not_result (sym f ∙ x))
        out x (is_short c e l f) = absurd (not_result (sym f ∙ x))
        out x (is_found c e l f) = record { chart = c; accepts = (judged_result bs bytes c).0 e; room_for = l; values_are = result_same (sym x ∙ f) }

        back : Analysed room bs g → AnalysisOf room bs → analyse_answer room bs ≡ returned g
        back a (is_refused m q e f) = absurd (not_result (sym e ∙ (judged_result bs bytes a.chart).1 a.accepts))
        back a (is_short c e l f) = absurd (omega (arith, ap (λ (d : Chart). d.locations) (same_chart e a.accepts), a.room_for))
        back a (is_found c e l f) = f ∙ ap returned (ap values_of (same_chart e a.accepts) ∙ sym a.values_are)
