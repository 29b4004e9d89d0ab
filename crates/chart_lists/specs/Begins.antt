-- A list that begins with another one.
use Rattle.std.specs.Prelude.{◌≡◌, List, ℕ, length, take}

-- l begins with xs
pub record Begins (xs l : List ℕ) : Type 0 where
  pub is : take (length xs) l ≡ xs
