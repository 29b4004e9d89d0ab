-- Where a count stands to a constant, and the table of what each comparison says there.
use Rattle.std.specs.Prelude.{◌≡◌, Bool, true, false, List, [], ◌∷◌, ℕ, ◌<◌}

-- 0 below it, 1 at it, 2 above it
pub data Order : (count constant order : ℕ) → Type 0 where
  below : {n k : ℕ} → n < k → Order n k 0
  at : {n k : ℕ} → n ≡ k → Order n k 1
  above : {n k : ℕ} → k < n → Order n k 2

-- a row for each code, and in it what the comparison says below, at and above the constant
abbrev pub table : List (List Bool)
table =
    (true ∷ true ∷ false ∷ [])
    ∷ (true ∷ false ∷ false ∷ [])
    ∷ (false ∷ true ∷ true ∷ [])
    ∷ (false ∷ false ∷ true ∷ [])
    ∷ (false ∷ true ∷ false ∷ [])
    ∷ []
