-- What the judgement of a file says, by paths: 1 to 8 of the file; 9, below version 3, at the lowest location that no path reaches; 10 at the lowest
-- transition with an unstarted test; else the file's chart. Every call that judges 1 to 10 cites these.
use mathlib.Core.Path.{◌≡◌, refl, sym, ap, ◌∙◌}
use mathlib.Core.Logic.{◌↔◌}
use mathlib.Core.Option.{some, some-injective}
use mathlib.Core.List.{List}
use Prim.Native.Nat.{ℕ, ◌≤◌}
use native.Mathlib.Omega.{arith}
use lib.ListN.{get_elem?}
use Rattle.file_format.specs.Parse.{Bytes}
use Rattle.lists.proofs.Nth.{below_nth}
use Rattle.model.specs.Answer.{Answer, returned, refused}
use Rattle.model.specs.Chart.{Chart}
use Rattle.model.specs.Valid.{Valid}
use Rattle.model.specs.Judge.{judged}
use Rattle.model.specs.Places.{LowestUnreached, LowestUnstarted, HasUnreached}
use Rattle.model.proofs.Judgement.{Judgement, refused_9, refused_10, accepted as judged-accepted, judged_cases, unreached_iff}
use Rattle.model.proofs.Answers.{result_same}
use Rattle.model.proofs.PlayerNumbers.{judged_is}
use Rattle.model.proofs.Judgement.Judgement.{is_unreached, is_unstarted, is_accepted}
use Rattle.file_format.specs.File.{chart_in}
use Rattle.file_format.proofs.File.{reads_valid}
use Rattle.file_format.proofs.Versions.{version_first}
use Rattle.file_format.proofs.Answers.{result_refused, then_result}
use Rattle.file_format.proofs.Refusals.{refusals_of_chart_in}
use Rattle.judgement.specs.Judging.{judged_in}
use Rattle.judgement.specs.Charts.{HoldsChart, Accepts}
use Rattle.judgement.specs.Refusals.{RefusalOfJudgement}
use Rattle.judgement.specs.Refusals.RefusalOfJudgement.{of_file, of_unreached, of_unstarted}

-- at each place alike, so at some place
pub somewhere : {A B : ℕ → Type 0} → ((q : ℕ) → A q ↔ B q) → ((q : ℕ) × A q) ↔ ((q : ℕ) × B q)
somewhere f = ((λ x. (x.0, (f x.0).0 x.1)), (λ x. (x.0, (f x.0).1 x.1)))

-- 1 to 10 alone
pub judged_numbers : {n p : ℕ} → RefusalOfJudgement n p → (1 ≤ n) × (n ≤ 10)
judged_numbers (of_file r) = (r.first_number, omega (arith, r.last_number))
judged_numbers (of_unreached e h) = (omega arith, omega arith)
judged_numbers (of_unstarted e h) = (omega arith, omega arith)

module _ (bs : List ℕ) where
  judged_chart : {c : Chart} → chart_in bs ≡ returned c → judged_in bs ≡ judged c
  unfolding judged_in
  judged_chart e = rw e

  pub judged_file : {n p : ℕ} → chart_in bs ≡ refused n p → judged_in bs ≡ refused n p
  unfolding judged_in
  judged_file e = rw e

  -- what the judgement accepts is the file's chart
  pub judged_reads : {c : Chart} → judged_in bs ≡ returned c → chart_in bs ≡ returned c
  unfolding judged_in
  judged_reads e = let d = then_result (chart_in bs) judged e in d.1 ∙ ap returned (result_same (sym (judged_is d.0 d.2) ∙ d.2))

  module _ (bytes : Bytes bs) where
    -- a refusal beyond those of the file is the chart's
    of_chart : (n p : ℕ) → 9 ≤ n → judged_in bs ≡ refused n p → HoldsChart bs (λ c. judged c ≡ refused n p)
    of_chart n p h e = go (chart_in bs) refl
      where
        go : (x : Answer Chart) → chart_in bs ≡ x → HoldsChart bs (λ c. judged c ≡ refused n p)
        go (returned c) f = record { chart = c; reads = f; has = sym (judged_chart f) ∙ e }
        go (refused m q) f = let g = judged_file f in let k : m ≡ n = cc in absurd (omega (arith, (refusals_of_chart_in bs m q f).last_number))

    pub judged_9 : (q : ℕ) → (judged_in bs ≡ refused 9 q) ↔ HoldsChart bs (λ c. LowestUnreached c q)
    judged_9 q = (
      (λ e. let h = of_chart 9 q (omega arith) e in
          record { chart = h.chart; reads = h.reads; has = (refused_9 (reads_valid bs h.chart bytes h.reads) q).0 h.has }),
      (λ h. judged_chart h.reads ∙ (refused_9 (reads_valid bs h.chart bytes h.reads) q).1 h.has),
    )

    -- so 9 comes wherever the version is below 3 and some location is not reached
    pub unreached_in_lem : ((q : ℕ) × HoldsChart bs (λ c. LowestUnreached c q)) ↔ HoldsChart bs HasUnreached
    unreached_in_lem = (
      (λ x. let h = x.1 in
          record { chart = h.chart; reads = h.reads; has = (unreached_iff (reads_valid bs h.chart bytes h.reads)).0 (x.0, h.has) }),
      (λ h.
          let x = (unreached_iff (reads_valid bs h.chart bytes h.reads)).1 h.has in
          (x.0, record { chart = h.chart; reads = h.reads; has = x.1 })),
    )

    -- and refuses no file of version 3, which is its first byte
    pub never_unreached : get_elem? bs 0 ≡ some 3 → HoldsChart bs HasUnreached → ⊥
    never_unreached e h =
        let v : h.chart.version ≡ 3 = some-injective _ _ (sym (version_first bs h.chart bytes h.reads) ∙ e) in
        omega (arith, h.has.below_3)

    pub judged_10 : (i : ℕ) → (judged_in bs ≡ refused 10 i) ↔ HoldsChart bs (λ c. LowestUnstarted c i)
    judged_10 i = (
      (λ e. let h = of_chart 10 i (omega arith) e in
          record { chart = h.chart; reads = h.reads; has = (refused_10 (reads_valid bs h.chart bytes h.reads) i).0 h.has }),
      (λ h. judged_chart h.reads ∙ (refused_10 (reads_valid bs h.chart bytes h.reads) i).1 h.has),
    )

    pub judged_result : (c : Chart) → (judged_in bs ≡ returned c) ↔ Accepts bs c
    judged_result c = (
      (λ e. out e (chart_in bs) refl),
      (λ a. judged_chart a.reads ∙ (judged-accepted (reads_valid bs c bytes a.reads)).1 a.accepted),
    )
      where
        same : {d : Chart} → chart_in bs ≡ returned d → judged d ≡ returned c → Judgement d → Accepts bs c
        same f e (is_unreached q g l) = absurd (result_refused e g)
        same f e (is_unstarted i g l) = absurd (result_refused e g)
        same {d} f e (is_accepted g a) = let k : d ≡ c = cc in record { reads = f ∙ ap returned k; accepted = rw k at a }

        out : judged_in bs ≡ returned c → (x : Answer Chart) → chart_in bs ≡ x → Accepts bs c
        out e (returned d) f = same f (sym (judged_chart f) ∙ e) (judged_cases (reads_valid bs d bytes f))
        out e (refused m q) f = absurd (result_refused e (judged_file f))

    -- 1 to 8 are those of the file
    pub judged_1_to_8 : (n p : ℕ) → n ≤ 8 → (judged_in bs ≡ refused n p) ↔ (chart_in bs ≡ refused n p)
    judged_1_to_8 n p h = ((λ e. out e (chart_in bs) refl), judged_file)
      where
        of : {d : Chart} → judged d ≡ refused n p → Judgement d → ⊥
        of e (is_unreached q g l) = let k : n ≡ 9 = cc in omega arith
        of e (is_unstarted i g l) = let k : n ≡ 10 = cc in omega arith
        of e (is_accepted g a) = result_refused g e

        out : judged_in bs ≡ refused n p → (x : Answer Chart) → chart_in bs ≡ x → chart_in bs ≡ refused n p
        out e (returned d) f = absurd (of (sym (judged_chart f) ∙ e) (judged_cases (reads_valid bs d bytes f)))
        out e (refused m q) f = f ∙ sym (judged_file f) ∙ e

    -- no other number comes, and each has its place
    pub refusals_of_judged_in : (n p : ℕ) → judged_in bs ≡ refused n p → RefusalOfJudgement n p
    refusals_of_judged_in n p e = out (chart_in bs) refl
      where
        of : {W : ℕ} {d : Chart} → Valid W d → judged d ≡ refused n p → Judgement d → RefusalOfJudgement n p
        of v f (is_unreached q g l) = let k : p ≡ q = cc in of_unreached (cc) (omega (arith, l.below, v.few_locations))
        of {d} v f (is_unstarted i g l) =
            let k : p ≡ i = cc in
            let b = below_nth d.transitions i l.unstarted_test.is_nth.there in
            of_unstarted (cc) (omega (arith, v.few_transitions))
        of v f (is_accepted g a) = absurd (result_refused g f)

        out : (x : Answer Chart) → chart_in bs ≡ x → RefusalOfJudgement n p
        out (returned d) f = let v = reads_valid bs d bytes f in of v (sym (judged_chart f) ∙ e) (judged_cases v)
        out (refused m q) f = of_file (refusals_of_chart_in bs n p (f ∙ sym (judged_file f) ∙ e))
