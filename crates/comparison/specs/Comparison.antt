-- The five comparisons of a count with a constant (document 01, "The chart").
use Rattle.std.specs.Prelude.{◌≡◌, Bool, [], ◌∷◌, ℕ, ◌≤◌, ◌<◌, leb, ltb, eqb}
use mathlib.Core.Option.{Option}
use lib.ListN.{get_elem?}
use Rattle.comparison.specs.declared.Comparison.{Comparison}
use Rattle.comparison.specs.declared.Comparison.TheVariants.{AtMost, Below, AtLeast, Above, Equal}

-- the comparison holds between a count and a constant
abbrev pub Met : Comparison → (count constant : ℕ) → Type 0
Met AtMost n k = n ≤ k
Met Below n k = n < k
Met AtLeast n k = k ≤ n
Met Above n k = k < n
Met Equal n k = n ≡ k

-- the same as a yes or no
unfoldable pub met : Comparison → (count constant : ℕ) → Bool
met AtMost n k = leb n k
met Below n k = ltb n k
met AtLeast n k = leb k n
met Above n k = ltb k n
met Equal n k = eqb n k

-- the comparison of a code, 0 to 4; every other code has none
unfoldable pub comparison_of : (code : ℕ) → Option Comparison
comparison_of code = get_elem? (AtMost ∷ Below ∷ AtLeast ∷ Above ∷ Equal ∷ []) code

-- the code of a comparison
unfoldable pub code_of : Comparison → ℕ
code_of AtMost = 0
code_of Below = 1
code_of AtLeast = 2
code_of Above = 3
code_of Equal = 4
