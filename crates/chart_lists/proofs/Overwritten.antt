-- A lent list after a call, by what the call answers.
use mathlib.Core.Path.{◌≡◌}
use mathlib.Core.List.{List}
use Prim.Native.Nat.{ℕ}
use Rattle.model.specs.Answer.{Answer, returned, refused}
use Rattle.chart_lists.specs.Lists.{put, overwritten}

module _ {A : Type 0} (bytes : A → List ℕ) {x : Answer A} (l : List ℕ) where
  pub overwritten_result : {a : A} → x ≡ returned a → overwritten bytes x l ≡ put (bytes a) l
  overwritten_result e = rw e

  pub overwritten_refused : {n p : ℕ} → x ≡ refused n p → overwritten bytes x l ≡ l
  overwritten_refused e = rw e
