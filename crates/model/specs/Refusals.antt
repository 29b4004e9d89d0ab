-- What is said of the refusals of an answer (document 01, "Turned down .."): with which numbers and at which places they come.
use Rattle.std.specs.Prelude.{◌≡◌, true, List, ℕ, ◌≤◌, ◌<◌}
use Rattle.lists.specs.Lists.{memb}
use Rattle.model.specs.Answer.{Answer, refused}

-- the answer is a result, or a refusal whose number and place have R
pub record Refuses (R : (n p : ℕ) → Type 0) {A : Type 0} (x : Answer A) : Type 0 where
  pub only : (n p : ℕ) → x ≡ refused n p → R n p

-- .. whose number is one of a list
abbrev pub NumberIn : {A : Type 0} → List ℕ → Answer A → Type 0
NumberIn l x = Refuses (λ n p. memb n l ≡ true) x

-- .. and whose place is from lo on, below hi: the number of one of these steps
abbrev pub StepRefusal : {A : Type 0} → (numbers : List ℕ) → (lo hi : ℕ) → Answer A → Type 0
StepRefusal l lo hi x = Refuses (λ n p. (memb n l ≡ true) × ((lo ≤ p) × (p < hi))) x
