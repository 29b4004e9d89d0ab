-- What an answer says of the answers that it is made of.
use mathlib.Core.Path.{◌≡◌, refl}
use mathlib.Core.List.{List}
use Prim.Native.Nat.{ℕ}
use Rattle.model.specs.Answer.{returned, refused}
use Rattle.file_format.specs.Parse.{Parsed, value, refusal}
use Rattle.file_format.specs.File.{answered}
pub use Rattle.model.proofs.Answers.{result_refused, unless_result, then_result}

pub answered_result : {A : Type 0} (x : Parsed A) {a : A} → answered x ≡ returned a → (t : List ℕ) × (x ≡ value a t)
answered_result (value b t) e = (t, cc)
answered_result (refusal n p) e = absurd (result_refused e refl)

pub answered_refused : {A : Type 0} (x : Parsed A) {n p : ℕ} → answered x ≡ refused n p → x ≡ refusal n p
answered_refused (value a t) e = absurd (result_refused refl e)
answered_refused (refusal m q) e = cc
