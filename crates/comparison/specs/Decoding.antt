-- A comparison decoded from its code, and the code of a comparison.
use Rattle.std.specs.Prelude.{◌≡◌, ℕ, Result, Ok, Err}
use mathlib.Core.Option.{Option, none, some}
use Rattle.comparison.specs.declared.Comparison.{Comparison}
use Rattle.comparison.specs.declared.UnknownCode.{UnknownCode}
use Rattle.comparison.specs.Comparison.{comparison_of, code_of}

-- the comparison that was found, if any
abbrev pub decoded_of : Result Comparison UnknownCode → Option Comparison
decoded_of (Ok x) = some x
decoded_of (Err e) = none

-- the result is the comparison of this code, or an error where it has none
abbrev pub Decodes : (code : ℕ) → Result Comparison UnknownCode → Type 0
Decodes code r = decoded_of r ≡ comparison_of code

-- this is the comparison's code
abbrev pub IsCodeOf : Comparison → (code : ℕ) → Type 0
IsCodeOf x code = code ≡ code_of x
