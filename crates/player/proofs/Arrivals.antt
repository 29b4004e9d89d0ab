-- What a result of the code for a list of steps, or for one, says of what follows on the definition's answer. Both by the cases of that answer.
use mathlib.Core.Path.{◌≡◌}
use Rattle.std.specs.Prelude.{Ok, Err}
use Rattle.model.specs.Answer.{Answer, returned, refused, then}
use Rattle.refusal.specs.declared.Refusal.{Refusal}
use Rattle.refusal.specs.Refused.{refused_as}
use Rattle.steps.specs.Stepping.{Decided}

module _ {A S B : Type 0} (P : A → S → Type 0) (a : Answer S) (f : S → Answer B) where
  -- where all is taken, what follows on the last state
  pub taken_answer : (x : A) → Decided P (Ok x) a → {b : Answer B} → ((s : S) → P x s → b ≡ f s) → b ≡ then a f
  taken_answer x decided {b} h = go a decided
    where
      go : (y : Answer S) → Decided P (Ok x) y → b ≡ then y f
      go (returned s) d = h s d
      go (refused n p) d = absurd cc

  pub refused_answer : (g : Refusal) → Decided P (Err g) a → refused_as g ≡ then a f
  refused_answer g decided = go a decided
    where
      go : (y : Answer S) → Decided P (Err g) y → refused_as g ≡ then y f
      go (returned s) d = absurd d
      go (refused n p) d = cc
