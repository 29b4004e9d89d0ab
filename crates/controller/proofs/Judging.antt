-- What the judgement of the heads, and of the state by 32, says of them, and what a call comes to behind it. By cases of the answers.
use mathlib.Core.Path.{◌≡◌, refl, sym}
use mathlib.Core.Bool.{Bool}
use mathlib.Core.List.{List}
use Prim.Native.Nat.{ℕ, ◌≤◌}
use native.Mathlib.Omega.{arith}
use lib.ListN.{length}
use borrow.Author.Tests.{leb-true}
use Rattle.std.specs.Prelude.{Result, Err}
use Rattle.std.specs.Result.{IsErrAnd}
use Rattle.std.proofs.lemmas.Result.{err_from_is_err_and}
use Rattle.model.specs.Answer.{Answer, returned, refused, unless, nowhere}
use Rattle.model.specs.Chart.{Chart}
use Rattle.refusal.specs.declared.Refusal.{Refusal}
use Rattle.refusal.specs.Refused.{refused_as, answer_as}
use Rattle.chart_lists.specs.declared.Header.{Header}
use Rattle.controller_model.specs.declared.Controller.{Controller}
use Rattle.controller_model.specs.declared.Heads.{Heads}
use Rattle.controller_model.specs.Parts.{offset}
use Rattle.controller_model.specs.Heads.{heads_judged}
use Rattle.controller_model.specs.Headers.{HeadersOf}
use Rattle.controller_model.specs.Serving.{Done}
use Rattle.controller_model.specs.Controlling.{sound_state, state_judged, Call, done_by, called, state_after, verdict_of}
use Rattle.controller_model.proofs.SetUp.{Accepted, as_many, blocks_end, blocks_long}
use Rattle.controller.specs.Judged.{Ready}

-- ---- an answer

-- a refusal that is passed up changes nothing
pub refused_call : (s : Controller) (r : Result (Unit {0}) Refusal) (f : Refusal) {x : Answer Done} → IsErrAnd r (λ g. g ≡ f) → x ≡ refused_as f
    → (answer_as r ≡ verdict_of x) × (s ≡ state_after s x)
unfolding verdict_of
refused_call s r f {x} e q = go (err_from_is_err_and {Q = λ g. g ≡ f} r e)
  where
    go : (g : Refusal) × (r ≡ Err g) × (g ≡ f) → (answer_as r ≡ verdict_of x) × (s ≡ state_after s x)
    go p = rw (p.1, p.2, q) (refl, refl)

-- what is done is what the call comes to
pub passed_call : (s : Controller) {v : Answer (Unit {0})} {t : Controller} {x y : Answer Done} → x ≡ y → v ≡ verdict_of y → t ≡ state_after s y
    → (v ≡ verdict_of x) × (t ≡ state_after s x)
passed_call s e p q = rw e (p, q)

-- ---- heads that pass

module _ {files : List ℕ} {hs : Heads} {K : ℕ} {cs : List Chart} where
  module _ (a : Accepted files hs K cs) where
    pub accepted_number : hs.number ≡ length cs
    accepted_number = sym (as_many files hs cs a.are)

    pub accepted_total : offset hs.blocks (length cs) ≤ 64
    accepted_total = omega (arith, blocks_end K hs.blocks cs a.blocks, leb-true K 64 a.timers)

    pub accepted_ready : {headers : List Header} → HeadersOf cs headers → Ready files hs headers cs
    accepted_ready are = record {
      charts = a.are;
      number = accepted_number;
      headers_of = are;
      fits = record { total = accepted_total; long = blocks_long K hs.blocks cs a.blocks };
    }

-- ---- the state, and the call

module _ (files : List ℕ) (hs : Heads) (K : ℕ) (s : Controller) where
  pub heads_refused : {n p : ℕ} → heads_judged files hs K ≡ refused n p → state_judged files hs K s ≡ refused n p
  unfolding state_judged
  heads_refused e = rw e

  -- what 32 comes to
  pub state_answer : {cs : List Chart} → heads_judged files hs K ≡ returned cs → {b : Bool} → b ≡ sound_state hs.blocks cs s
      → state_judged files hs K s ≡ unless b 32 nowhere (returned cs)
  unfolding state_judged
  state_answer e d = rw (e, d)

  -- a call is its judgement, then what it does
  module _ (k : Call) where
    pub called_refused : {n p : ℕ} → state_judged files hs K s ≡ refused n p → called files hs K s k ≡ refused n p
    unfolding called
    called_refused e = rw e

    pub called_passed : {cs : List Chart} → state_judged files hs K s ≡ returned cs → called files hs K s k ≡ done_by hs.blocks cs s k
    unfolding called
    called_passed e = rw e refl
