-- Set-up: what is asked of the starting counts, and the state that it makes.
use mathlib.Core.Path.{◌≡◌, refl}
use mathlib.Core.List.{List}
use Prim.Native.Nat.{ℕ}
use native.Mathlib.Omega.{arith}
use lib.ListN.{length}
use Rattle.lists.specs.Lists.{up_to}
use Rattle.lists.proofs.Nth.{nth_below}
use Rattle.model.specs.Answer.{returned}
use Rattle.model.specs.Chart.{Chart}
use Rattle.std.specs.Prelude.{Result, Err}
use Rattle.std.specs.Result.{IsErrAnd}
use Rattle.std.proofs.lemmas.Result.{err_from_is_err_and}
use Rattle.refusal.specs.declared.Refusal.{Refusal}
use Rattle.refusal.specs.Refused.{refused_as, answer_as}
use Rattle.controller_model.specs.declared.Head.{Head}
use Rattle.controller_model.specs.declared.Controller.{Controller}
use Rattle.controller_model.specs.declared.Heads.{Heads}
use Rattle.controller_model.specs.declared.Parts.{Parts}
use Rattle.controller_model.specs.Heads.{head_counts, set_up_judged}
use Rattle.controller_model.specs.Controlling.{start_head, start_counts, at_start, set_up, state_set_up, verdict_of}
use Rattle.controller_model.proofs.SetUp.{set_up_accepted, blocks_long}
use Rattle.controller.specs.Judged.{CountsFit}
use Rattle.controller.proofs.Judging.{accepted_number, accepted_total}

module _ (files : List ℕ) (hs : Heads) (K : ℕ) (counts : List ℕ) (ns : Parts) where
  pub set_up_refused : (s : Controller) (r : Result (Unit {0}) Refusal) (f : Refusal) → IsErrAnd r (λ g. g ≡ f)
      → set_up_judged files hs K counts ns ≡ refused_as f
      → (answer_as r ≡ verdict_of (set_up files hs K counts ns)) × (s ≡ state_set_up s (set_up files hs K counts ns))
  unfolding set_up verdict_of
  set_up_refused s r f e q = go (err_from_is_err_and {Q = λ g. g ≡ f} r e)
    where
      go : (g : Refusal) × (r ≡ Err g) × (g ≡ f)
          → (answer_as r ≡ verdict_of (set_up files hs K counts ns)) × (s ≡ state_set_up s (set_up files hs K counts ns))
      go p = rw (p.1, p.2, q) (refl, refl)

  module _ {cs : List Chart} (e : set_up_judged files hs K counts ns ≡ returned cs) where
    pub as_many_charts : hs.number ≡ length cs
    as_many_charts = accepted_number (set_up_accepted files hs K counts ns cs e).accepted

    pub counts_fit : CountsFit hs.blocks (head_counts counts ns) hs.number
    counts_fit =
        let a = set_up_accepted files hs K counts ns cs e in
        rw as_many_charts (record {
          total = accepted_total a.accepted;
          long = λ h b.
              let c = nth_below cs h b in
              omega (arith, (a.allowed h c.0 c.1).one_each, blocks_long K hs.blocks cs a.accepted.blocks h c.0 c.1);
        })

    pub set_up_is : (s : Controller) {heads : List Head} {all : List ℕ} → heads ≡ up_to (start_head cs) 8
        → all ≡ start_counts hs.blocks (head_counts counts ns) hs.number
        → (returned (tt {0}) ≡ verdict_of (set_up files hs K counts ns))
        × (record { turn = 0; heads = heads; counts = all } ≡ state_set_up s (set_up files hs K counts ns))
    unfolding set_up at_start verdict_of
    set_up_is s p q = rw (e, p, q, as_many_charts) (refl, refl)
