-- What the answers of the code say of the definitions.
use mathlib.Core.Path.{◌≡◌, refl}
use Rattle.std.specs.Prelude.{Result}
use Rattle.std.specs.Result.{IsErr, IsErrAnd}
use Rattle.std.proofs.lemmas.Result.{err_from_is_err_and}
use Rattle.refusal.specs.declared.Refusal.{Refusal}
use Rattle.refusal.specs.Refused.{answer_as, refused_as}

-- a `?` passes the refusal on
pub passed_on : {A : Type 0} (r : Result A Refusal) (f : Refusal) → IsErr r × IsErrAnd r (λ y. y ≡ f) → answer_as r ≡ refused_as f
passed_on r f h = let p = err_from_is_err_and r h.1 in rw (p.1, p.2) refl
