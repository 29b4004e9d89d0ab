-- What is handed in to the player or to the counter board, a file, starting counts and two lists, is judged up to 13 before anything else. By the
-- cases of the tests.
use mathlib.Core.Path.{◌≡◌, sym, ap, ◌∙◌}
use mathlib.Core.Logic.{◌⊎◌, inl, inr, ◌↔◌}
use mathlib.Core.Bool.{Bool, true}
use mathlib.Core.List.{List}
use Prim.Native.Nat.{ℕ, ◌≤◌}
use native.Mathlib.Omega.{arith}
use lib.Dec.{leb, eqb}
use lib.ListN.{length}
use Rattle.lists.specs.Lists.{lowest}
use Rattle.model.specs.Answer.{Answer, returned, refused, then, unless, nowhere}
use Rattle.model.specs.Chart.{Chart}
use Rattle.model.specs.Player.{too_large, counts_judged}
use Rattle.model.specs.PlayerTerms.{CountsAllowed}
use Rattle.model.proofs.Answers.{result_same, unless_result, then_result, then_refused, then_then, then_unless, then_same}
use Rattle.model.proofs.Answers.{refuses_result, refuses_unless, refuses_then}
use Rattle.model.proofs.PlayerLaws.{counts_pass, counts_allowed}
use Rattle.file_format.specs.Parse.{Bytes}
use Rattle.judgement.specs.Judging.{judged_in}
use Rattle.judgement.specs.Charts.{Accepts}
use Rattle.player.proofs.Inputs.{counts_then}
use Rattle.judgement.proofs.Corollaries.{judged_numbers, judged_result, refusals_of_judged_in}

module _ (bs counts : List ℕ) (same : Bool) where
  -- the judgement up to 13, `same` being whether the lists have one length
  unfoldable pub inputs_judged : Answer Chart
  inputs_judged = then (judged_in bs) (λ c. counts_judged c counts (unless same 13 nowhere (returned c)))

  -- it comes first
  pub inputs_first : {A : Type 0} (x : Chart → Answer A)
      → then (judged_in bs) (λ c. counts_judged c counts (unless same 13 nowhere (x c))) ≡ then inputs_judged x
  unfolding inputs_judged
  inputs_first x =
      then_same (judged_in bs) _ _ (λ c. sym (counts_then c counts _ x ∙ ap (counts_judged c counts) (then_unless same 13 nowhere (returned c) x)))
      ∙ sym (then_then (judged_in bs) _ x)

  -- its refusal stands, whatever is refused 14 or higher behind it
  pub early : {A B : Type 0} (x : Chart → Answer A) (y : Chart → Answer B) (n p : ℕ) → n ≤ 13 → ((c : Chart) → x c ≡ refused n p → 14 ≤ n)
      → then inputs_judged x ≡ refused n p → then inputs_judged y ≡ refused n p
  early x y n p l late e = go (then_refused inputs_judged x e)
    where
      go : (inputs_judged ≡ refused n p) ⊎ ((c : Chart) × (inputs_judged ≡ returned c) × (x c ≡ refused n p)) → then inputs_judged y ≡ refused n p
      go (inl f) = rw f
      go (inr f) = absurd (omega (arith, late f.0 f.2))

  module _ (bytes : Bytes bs) where
    pub inputs_refused : (n p : ℕ) → inputs_judged ≡ refused n p → n ≤ 13
    unfolding inputs_judged counts_judged
    inputs_refused n p =
        (refuses_then (judged_in bs) _ (record { only = λ n p e. omega (arith, (judged_numbers (refusals_of_judged_in bs bytes n p e)).1) }) (λ c e.
        refuses_unless (eqb (length counts) c.timers) 12 nowhere _ (λ e. omega arith) (λ e.
        refuses_unless (leb c.timers (lowest (too_large counts) c.timers)) 12 (lowest (too_large counts) c.timers) _ (λ e. omega arith) (λ e.
        refuses_unless same 13 nowhere (returned c) (λ e. omega arith) (λ e. refuses_result {R = λ n p. n ≤ 13} c))))).only n p

    pub inputs_result : (c : Chart) → (inputs_judged ≡ returned c) ↔ ((same ≡ true) × Accepts bs c × CountsAllowed c counts)
    unfolding inputs_judged
    inputs_result c = (out, λ h. rw ((judged_result bs bytes c).1 h.1, counts_pass c counts (unless same 13 nowhere (returned c)) h.2, h.0))
      where
        out : inputs_judged ≡ returned c → (same ≡ true) × Accepts bs c × CountsAllowed c counts
        out e =
            let a = then_result (judged_in bs) _ e in
            let allowed = counts_allowed a.0 counts _ c a.2 in
            let b = unless_result same 13 nowhere (returned a.0) (sym (counts_pass a.0 counts _ allowed) ∙ a.2) in
            let d : a.0 ≡ c = result_same b.1 in
            (b.0, rw d at ((judged_result bs bytes a.0).0 a.1), rw d at allowed)
