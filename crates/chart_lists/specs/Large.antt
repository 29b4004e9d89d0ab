-- Large constants in the list of a chart's constants.
use Rattle.std.specs.Prelude.{Bool, List, ℕ, take}
use Rattle.std.specs.List.{list_any}
use Rattle.model.specs.Version.{is_large}

-- one of the first n constants is over 65,535
abbrev pub large_among : (n : ℕ) → (constants : List ℕ) → Bool
large_among n constants = list_any is_large (take n constants)
