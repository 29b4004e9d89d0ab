-- The judgement of the number of heads, their files and the board: what the answer of one step says of the next.
use mathlib.Core.Path.{◌≡◌, ◌∙◌}
use mathlib.Core.Logic.{◌⊎◌}
use mathlib.Core.List.{List}
use Prim.Native.Nat.{ℕ, ◌≤◌, ◌<◌}
use native.Mathlib.Omega.{arith}
use lib.Dec.{leb}
use borrow.Author.Tests.{le-leb, lt-leb}
use Rattle.std.specs.Prelude.{Result, Err}
use Rattle.std.specs.Result.{IsErrAnd}
use Rattle.std.proofs.lemmas.Result.{err_from_is_err_and}
use Rattle.model.specs.Answer.{Answer, returned, refused, then, unless, nowhere}
use Rattle.model.specs.Chart.{Chart}
use Rattle.refusal.specs.declared.Refusal.{Refusal}
use Rattle.refusal.specs.Refused.{refused_as}
use Rattle.chart_lists.specs.declared.Header.{Header}
use Rattle.controller_model.specs.declared.Heads.{Heads}
use Rattle.controller_model.specs.Heads.{charts_in, charts_judged}
use Rattle.controller_model.proofs.SetUp.{number_passes}
use Rattle.controller_model.proofs.Failing.{number_fails}
use Rattle.heads.specs.Judged.{JudgedAs}

-- a refusal that is passed up
pub refused_lem : (r : Result (List Header) Refusal) {x : Answer (List Chart)} (f : Refusal) → IsErrAnd r (λ g. g ≡ f) → x ≡ refused_as f
    → JudgedAs r x
refused_lem r {x} f e d = go (err_from_is_err_and {Q = λ g. g ≡ f} r e)
  where
    go : (g : Refusal) × (r ≡ Err g) × (g ≡ f) → JudgedAs r x
    go p = rw (p.1, p.2) d

-- ---- the number of heads, their files and the board

module _ (files : List ℕ) (hs : Heads) (K : ℕ) where
  pub wrong_number : (hs.number ≡ 0) ⊎ (8 < hs.number) → charts_judged files hs K ≡ refused 25 nowhere
  unfolding charts_judged
  wrong_number e = rw ((number_fails hs.number).1 e)

  -- 11 behind the files
  abbrev limited : List Chart → Answer (List Chart)
  limited cs = unless (leb K 64) 11 nowhere (returned cs)

  module _ (some : hs.number ≡ 0 → ⊥) (few : hs.number ≤ 8) where
    allowed : charts_judged files hs K ≡ then (charts_in files hs) limited
    unfolding charts_judged
    allowed = rw ((number_passes hs.number).1 (omega (arith, some), few))

    pub files_refused : {n p : ℕ} → charts_in files hs ≡ refused n p → charts_judged files hs K ≡ refused n p
    files_refused e = allowed ∙ rw e

    module _ {cs : List Chart} (e : charts_in files hs ≡ returned cs) where
      pub limit_refused : 64 < K → charts_judged files hs K ≡ refused 11 nowhere
      limit_refused h = allowed ∙ rw (e, lt-leb K 64 h)

      pub charts_allowed : K ≤ 64 → charts_judged files hs K ≡ returned cs
      charts_allowed h = allowed ∙ rw (e, le-leb K 64 h)
