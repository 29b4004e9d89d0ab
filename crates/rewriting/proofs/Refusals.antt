-- Which refusals the rewriting answers, and exactly where: 1 to 8 of the file; 9, below version 3, at the lowest location that no path reaches; 10 at
-- the lowest transition with an unstarted test; 11 for K over 64; 20 where more than K timers are used; 21 where the buffer is too short. The
-- outcomes are gone through.
use mathlib.Core.Path.{◌≡◌, sym, ap, ap₂, ◌∙◌, subst}
use mathlib.Core.Logic.Iff
use mathlib.Core.Logic.{◌↔◌}
use mathlib.Core.Option.{some}
use mathlib.Core.List.{List}
use Prim.Native.Nat.{ℕ, ◌≤◌, ◌<◌}
use native.Mathlib.Omega.{arith}
use lib.ListN.{length, get_elem?}
use Rattle.model.specs.Answer.{Answer, returned, refused, then, nowhere}
use Rattle.model.specs.Spare.{reached_part}
use Rattle.model.specs.FirstFit.{used}
use Rattle.model.specs.Rewrite.{rewritten}
use Rattle.model.specs.Judge.{Rewriting}
use Rattle.model.specs.Places.{LowestUnreached, LowestUnstarted, HasUnreached}
use Rattle.model.proofs.Answers.{refused_same, kept_refused}
use Rattle.file_format.specs.Parse.{Bytes}
use Rattle.file_format.specs.File.{chart_in, file_of}
use Rattle.file_format.proofs.Answers.{result_refused}
use Rattle.judgement.specs.Judging.{judged_in}
use Rattle.judgement.specs.Charts.{HoldsChart}
use Rattle.judgement.proofs.Corollaries.{judged_numbers, judged_9, judged_10, judged_result, judged_1_to_8, refusals_of_judged_in}
use Rattle.judgement.proofs.Corollaries.{somewhere, unreached_in_lem, never_unreached}
use Rattle.rewriting.specs.Rewriting.{values_of, rewrite_into, rewrite_answer}
use Rattle.rewriting.specs.Refusals.{RefusalOfRewriting, HoldsAccepted}
use Rattle.rewriting.specs.Refusals.RefusalOfRewriting.{of_judgement, of_limit, of_used, of_room}
use Rattle.rewriting.proofs.Outcomes.{Stop, number_of, Stops, same_stop, Outcome, into_stopped, outcome}
use Rattle.rewriting.proofs.Outcomes.Stop.{at_limit, at_used, at_room}
use Rattle.rewriting.proofs.Outcomes.Outcome.{is_refused, is_stopped, is_returned}
use Rattle.rewriting.proofs.Order.{into_refused}

stop_number : (s : Stop) → 10 < number_of s
stop_number at_limit = omega arith
stop_number at_used = omega arith
stop_number at_room = omega arith

refusal_of_stop : (s : Stop) {n p : ℕ} → n ≡ number_of s → p ≡ nowhere → RefusalOfRewriting n p
refusal_of_stop at_limit = of_limit
refusal_of_stop at_used = of_used
refusal_of_stop at_room = of_room

module _ (K room : ℕ) (bs : List ℕ) where
  -- a refusal of the rewriting is one of its answer
  answer_refused : {n p : ℕ} → (rewrite_answer K room bs ≡ refused n p) ↔ (rewrite_into K room bs ≡ refused n p)
  unfolding rewrite_answer
  answer_refused = (kept_refused (rewrite_into K room bs) values_of, λ e. ap (λ (y : Answer Rewriting). then y (λ x. returned (values_of x))) e)

  module _ (bytes : Bytes bs) where
    pub refusals_of_rewrite_answer : (n p : ℕ) → rewrite_answer K room bs ≡ refused n p → RefusalOfRewriting n p
    refusals_of_rewrite_answer n p e = go (answer_refused.0 e) (outcome K room bs)
      where
        go : rewrite_into K room bs ≡ refused n p → Outcome K room bs → RefusalOfRewriting n p
        go e (is_refused m q f g) = let k = refused_same (sym e ∙ g) in rw (k.0, k.1) (of_judgement (refusals_of_judged_in bs bytes m q f))
        go e (is_stopped c s f h g) = let k = refused_same (sym e ∙ g) in refusal_of_stop s k.0 k.1
        go e (is_returned x g) = absurd (result_refused g e)

    -- 17 is the writer's, 18 the counter board's
    pub never_17_or_18 : (n p : ℕ) → 17 ≤ n → n ≤ 18 → rewrite_answer K room bs ≡ refused n p → ⊥
    never_17_or_18 n p lo hi e = go (refusals_of_rewrite_answer n p e)
      where
        go : RefusalOfRewriting n p → ⊥
        go (of_judgement r) = omega (arith, (judged_numbers r).1)
        go (of_limit f h) = omega (arith, f)
        go (of_used f h) = omega (arith, f)
        go (of_room f h) = omega (arith, f)

    -- 1 to 10 are those of the judgement
    of_judged : (n p : ℕ) → n ≤ 10 → (rewrite_answer K room bs ≡ refused n p) ↔ (judged_in bs ≡ refused n p)
    of_judged n p h = (λ e. out (answer_refused.0 e) (outcome K room bs), λ e. answer_refused.1 (into_refused K room bs e))
      where
        out : rewrite_into K room bs ≡ refused n p → Outcome K room bs → judged_in bs ≡ refused n p
        out e (is_refused m q f g) = let k = refused_same (sym g ∙ e) in f ∙ ap₂ refused k.0 k.1
        out e (is_stopped c s f l g) = absurd (omega (arith, stop_number s, (refused_same (sym e ∙ g)).0))
        out e (is_returned x g) = absurd (result_refused g e)

    pub refused_1_to_8 : (n p : ℕ) → n ≤ 8 → (rewrite_answer K room bs ≡ refused n p) ↔ (chart_in bs ≡ refused n p)
    refused_1_to_8 n p h =
        let a = of_judged n p (omega arith) in let b = judged_1_to_8 bs bytes n p h in (λ e. b.0 (a.0 e), λ e. a.1 (b.1 e))

    pub refused_9 : (q : ℕ) → (rewrite_answer K room bs ≡ refused 9 q) ↔ HoldsChart bs (λ c. LowestUnreached c q)
    refused_9 q = let a = of_judged 9 q (omega arith) in let b = judged_9 bs bytes q in (λ e. b.0 (a.0 e), λ e. a.1 (b.1 e))

    -- 9 wherever the version is below 3 and some location is not reached, and in no file of version 3
    pub refused_9_when : ((q : ℕ) × (rewrite_answer K room bs ≡ refused 9 q)) ↔ HoldsChart bs HasUnreached
    refused_9_when = Iff.trans (somewhere refused_9) (unreached_in_lem bs bytes)

    pub never_9 : get_elem? bs 0 ≡ some 3 → (q : ℕ) → rewrite_answer K room bs ≡ refused 9 q → ⊥
    never_9 v q e = never_unreached bs bytes v (refused_9_when.0 (q, e))

    pub refused_10 : (i : ℕ) → (rewrite_answer K room bs ≡ refused 10 i) ↔ HoldsChart bs (λ c. LowestUnstarted c i)
    refused_10 i = let a = of_judged 10 i (omega arith) in let b = judged_10 bs bytes i in (λ e. b.0 (a.0 e), λ e. a.1 (b.1 e))

    -- those after it come exactly where they stop a chart that is judged
    exactly : (s : Stop) → (rewrite_answer K room bs ≡ refused (number_of s) nowhere) ↔ HoldsAccepted bs (Stops K room s)
    exactly s = (
      λ e. out (answer_refused.0 e) (outcome K room bs),
      λ j. answer_refused.1 (into_stopped K room bs j.chart s ((judged_result bs bytes j.chart).1 j.accepts) j.has),
    )
      where
        out : rewrite_into K room bs ≡ refused (number_of s) nowhere → Outcome K room bs → HoldsAccepted bs (Stops K room s)
        out e (is_refused m q f g) =
            let same = refused_same (sym e ∙ g) in
            absurd (omega (arith, stop_number s, same.0, (judged_numbers (refusals_of_judged_in bs bytes m q f)).1))
        out e (is_stopped c t f h g) =
            let same : t ≡ s = same_stop t s (refused_same (sym g ∙ e)).0 in
            record { chart = c; accepts = (judged_result bs bytes c).0 f; has = subst (λ (u : Stop). Stops K room u c) same h }
        out e (is_returned x g) = absurd (result_refused g e)

    pub refused_11 : (rewrite_answer K room bs ≡ refused 11 nowhere) ↔ HoldsAccepted bs (λ c. 64 < K)
    refused_11 = exactly at_limit

    -- 20 exactly where 1 to 11 do not apply and more than K timers are used
    pub refused_20 : (rewrite_answer K room bs ≡ refused 20 nowhere) ↔ HoldsAccepted bs (λ c. (K ≤ 64) × (K < used (reached_part c)))
    refused_20 = exactly at_used

    -- 21 exactly where 1 to 20 do not apply and the rewritten file is longer than the buffer
    pub refused_21 : (rewrite_answer K room bs ≡ refused 21 nowhere)
        ↔ HoldsAccepted bs (λ c. (K ≤ 64) × (used (reached_part c) ≤ K) × (room < length (file_of (rewritten c))))
    refused_21 = exactly at_room
