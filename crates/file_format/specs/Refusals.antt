-- The refusals of reading: their numbers and their places (document 01, "Turned down ..").
use Rattle.std.specs.Prelude.{◌≡◌, ◌⊎◌, ℕ, ◌≤◌, ◌<◌}
use Rattle.model.specs.Answer.{nowhere}

-- the numbers from `first` to 8; 4 to 8 may have a transition's number as their place
pub record RefusalFrom (first n p : ℕ) : Type 0 where
  pub first_number : first ≤ n
  pub last_number : n ≤ 8
  pub place : (p ≡ nowhere) ⊎ ((4 ≤ n) × (p < 512))

-- of a whole file, 1 to 8
abbrev pub RefusalOfFile : (n p : ℕ) → Type 0
RefusalOfFile n p = RefusalFrom 1 n p

-- of a body, 3 to 8
abbrev pub RefusalOfBody : (n p : ℕ) → Type 0
RefusalOfBody n p = RefusalFrom 3 n p
