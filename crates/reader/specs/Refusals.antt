-- The refusals of the reader: those of the file, and 21 where a lent list is too short (document 01, "Turned down ..").
use Rattle.std.specs.Prelude.{◌≡◌, ◌⊎◌, ℕ}
use Rattle.model.specs.Answer.{nowhere}
use Rattle.file_format.specs.Refusals.{RefusalOfFile}

abbrev pub RefusalOfReading : (n p : ℕ) → Type 0
RefusalOfReading n p = RefusalOfFile n p ⊎ ((n ≡ 21) × (p ≡ nowhere))
