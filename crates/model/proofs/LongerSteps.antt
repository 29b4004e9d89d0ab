-- A list of steps with one more at its end, tests that read the chart's own timers alone, and a list of steps as two lists of numbers.
use mathlib.Core.Path.{◌≡◌, refl, ap, ◌∙◌}
use mathlib.Core.Bool.{Bool, true}
use mathlib.Core.List.{List, [], ◌∷◌, ◌++◌, map}
use Prim.Native.Nat.{ℕ, suc, ◌-◌, ◌≤◌, ◌<◌}
use borrow.Author.Tests.{le-leb, eq-eqb}
use Rattle.lists.specs.Rising.{All}
use Rattle.model.specs.Answer.{Answer, returned, refused, then}
use Rattle.model.specs.Chart.{Test, Transition, Chart, Nth}
use Rattle.model.specs.Valid.{ValidTest, ValidTransition}
use Rattle.model.specs.Run.{Counts, State, Step, grown, all_met, after, enabled, attempt, steps}
use Rattle.model.specs.Player.{steps_of}
use Rattle.model.proofs.Answers.{not_result, result_same}
use Rattle.model.proofs.Steps.{attempt_some}

met_agree : (W n : ℕ) (ts : List Test) (v w : Counts) → All (ValidTest W n) ts → ((j : ℕ) → j < n → v j ≡ w j) → all_met ts v ≡ all_met ts w
unfolding all_met
met_agree W n [] v w h e = refl
met_agree W n (t ∷ ts) v w h e =
    rw (e t.timer h.0.timer, met_agree W n ts v w h.1 e) refl

-- whether a transition is enabled depends on the chart's timers alone
pub enabled_agree : {W locations : ℕ} (c : Chart) (r : Transition) (v w : Counts) → ValidTransition W locations c.timers r
    → ((j : ℕ) → j < c.timers → v j ≡ w j) → enabled c r v ≡ enabled c r w
unfolding enabled
enabled_agree {W} c r v w h e = met_agree W c.timers r.tests v w h.tests e

module _ (allowed : ℕ → Bool) (c : Chart) where
  -- a step that nothing refuses, whatever its number
  pub attempt_taken : (n : ℕ) (s : State) (e : Step) {r : Transition} → Nth c e.transition r → allowed e.time ≡ true → r.source ≡ s.location
      → s.time ≤ e.time → enabled c r (grown (e.time - s.time) s.counts) ≡ true → attempt allowed c n s e ≡ returned (after r s e.time)
  attempt_taken n s e {r} m a from late t =
      attempt_some allowed c n s e m ∙ rw (a, eq-eqb r.source s.location from, le-leb s.time e.time late, t) refl

  pub steps_snoc : (es : List Step) (n : ℕ) (s : State) (e : Step) {s' s'' : State} → steps allowed c n s es ≡ returned s'
      → ((m : ℕ) → attempt allowed c m s' e ≡ returned s'') → steps allowed c n s (es ++ e ∷ []) ≡ returned s''
  unfolding steps
  steps_snoc [] n s e {s'} {s''} x y = rw (result_same x) (rw (y n) refl)
  steps_snoc (f ∷ es) n s e {s'} {s''} x y = go (attempt allowed c n s f) (λ (t : State). steps_snoc es (suc n) t e) x
    where
      go : (a : Answer State)
          → ((t : State) → steps allowed c (suc n) t es ≡ returned s' → ((m : ℕ) → attempt allowed c m s' e ≡ returned s'')
          → steps allowed c (suc n) t (es ++ e ∷ []) ≡ returned s'')
          → then a (λ t. steps allowed c (suc n) t es) ≡ returned s' → then a (λ t. steps allowed c (suc n) t (es ++ e ∷ [])) ≡ returned s''
      go (returned t) ih z = ih t z y
      go (refused k p) ih z = absurd (not_result z)

pub steps_of_lem : (es : List Step) → steps_of (map (λ e. e.transition) es) (map (λ e. e.time) es) ≡ es
unfolding steps_of
steps_of_lem [] = refl
steps_of_lem (e ∷ es) = ap (λ (l : List Step). e ∷ l) (steps_of_lem es)
