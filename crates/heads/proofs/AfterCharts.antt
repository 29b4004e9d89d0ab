-- What is judged of the heads behind their charts: the blocks, and at set-up the starting counts before them.
use mathlib.Core.Path.{◌≡◌, sym, ◌∙◌}
use mathlib.Core.Bool.{Bool}
use mathlib.Core.List.{List}
use Prim.Native.Nat.{ℕ, ◌≤◌}
use native.Mathlib.Omega.{arith}
use lib.ListN.{length}
use Rattle.std.specs.Prelude.{Ok}
use Rattle.model.specs.Answer.{Answer, returned, refused, then, unless, nowhere}
use Rattle.model.specs.Chart.{Chart}
use Rattle.chart_lists.specs.declared.Header.{Header}
use Rattle.controller_model.specs.declared.Heads.{Heads}
use Rattle.controller_model.specs.declared.Parts.{Parts}
use Rattle.controller_model.specs.Headers.{HeadersOf}
use Rattle.controller_model.specs.Heads.{charts_judged, counts_in_order, blocks_fit, blocks_judged}
use Rattle.controller_model.specs.Heads.{head_counts, set_up_judged, heads_judged}
use Rattle.controller_model.proofs.SetUp.{judged_charts, as_many}
use Rattle.heads.specs.Judged.{JudgedAs}
use Rattle.heads.proofs.Counts.{counts_then}

-- the charts passed: so many as there are heads, and these are their headers
pub record ChartsPassed (files : List ℕ) (hs : Heads) (K : ℕ) (headers : List Header) : Type 0 where
  pub charts : List Chart
  pub are : charts_judged files hs K ≡ returned charts
  pub number : hs.number ≡ length charts
  pub headers_are : HeadersOf charts headers

-- the answer of code that knows the charts by their headers
abbrev pub Tells : {A : Type 0} → Heads → List Header → (answer : A) → (List Chart → A) → Type 0
Tells hs headers a f = (cs : List Chart) → hs.number ≡ length cs → HeadersOf cs headers → a ≡ f cs

module _ (files : List ℕ) (hs : Heads) (K : ℕ) where
  -- ---- a refusal of the charts stands

  module _ {n p : ℕ} (e : charts_judged files hs K ≡ refused n p) where
    pub charts_refused : heads_judged files hs K ≡ refused n p
    unfolding heads_judged
    charts_refused = rw e

    pub set_up_refused : (counts : List ℕ) (ns : Parts) → set_up_judged files hs K counts ns ≡ refused n p
    unfolding set_up_judged
    set_up_refused counts ns = rw e

module _ (files : List ℕ) (hs : Heads) (K : ℕ) (headers : List Header) where
  pub all_passed : JudgedAs (Ok headers) (charts_judged files hs K) → ChartsPassed files hs K headers
  all_passed (cs, e, are) =
      record { charts = cs; are = e; number = sym (as_many files hs cs (judged_charts files hs K cs e).1); headers_are = are }

  pub few_heads : ChartsPassed files hs K headers → hs.number ≤ 8
  few_heads p = omega (arith, p.number, p.headers_are.few)

  -- ---- a call after set-up

  pub blocks_answer : (p : ChartsPassed files hs K headers) {a b : Bool} → Tells hs headers a (blocks_fit K hs.blocks) → a ≡ b
      → heads_judged files hs K ≡ unless b 25 nowhere (returned p.charts)
  unfolding heads_judged
  blocks_answer p d e = rw (p.are, ← d p.charts p.number p.headers_are, e)

  -- ---- set-up

  module _ (counts : List ℕ) (ns : Parts) where
    -- the starting counts alone
    abbrev pub counts_of : List Chart → Answer (Unit {0})
    counts_of cs = counts_in_order (head_counts counts ns) 0 cs (returned tt)

    module _ (p : ChartsPassed files hs K headers) {y : Answer (Unit {0})} (d : Tells hs headers y counts_of) where
      after_counts : set_up_judged files hs K counts ns ≡ then y (λ _. blocks_judged K hs.blocks p.charts (returned p.charts))
      unfolding set_up_judged
      after_counts = rw (p.are, d p.charts p.number p.headers_are)
          (counts_then (head_counts counts ns) (blocks_judged K hs.blocks p.charts (returned p.charts)) 0 p.charts)

    pub counts_refused : ChartsPassed files hs K headers → {n p : ℕ} → Tells hs headers (refused n p) counts_of
        → set_up_judged files hs K counts ns ≡ refused n p
    counts_refused p d = after_counts p d

    pub set_up_answer : (p : ChartsPassed files hs K headers) → Tells hs headers (returned tt) counts_of
        → {a b : Bool} → Tells hs headers a (blocks_fit K hs.blocks) → a ≡ b
        → set_up_judged files hs K counts ns ≡ unless b 25 nowhere (returned p.charts)
    set_up_answer p d g h = after_counts p d ∙ rw (← g p.charts p.number p.headers_are, h)
