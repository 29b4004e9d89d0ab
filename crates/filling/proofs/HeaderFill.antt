-- The room for the accepting locations, by the first numbers of the header.
use mathlib.Core.Path.{◌≡◌}
use mathlib.Core.Logic.{◌⊎◌, inl, inr}
use mathlib.Core.List.{List}
use Prim.Native.Nat.{ℕ, ◌≤◌}
use native.Mathlib.Omega.{arith}
use Rattle.file_format.specs.Parse.{value}
use Rattle.file_judging.specs.declared.header.Limits.{Limits}
use Rattle.file_judging.specs.Parts.{read_limits}
use Rattle.file_judging.proofs.HeaderParts.{accepting_length, header_entries, limits_few}
use Rattle.filling.specs.Parts.{AcceptingFit}
use Rattle.filling.specs.Parts.AcceptingFit.{of_any, of_this}

pub accepting_room : {bs : List ℕ} {room : ℕ} → AcceptingFit bs room → {l : Limits} {t : List ℕ} → read_limits bs ≡ value l t
    → (l.locations ≤ room) ⊎ (l.accepting ≤ room)
accepting_room {bs} (of_any r) e = inl (omega (arith, limits_few bs e))
accepting_room {bs} (of_this h u k r) e = inr (omega (arith, accepting_length _ _ _ (header_entries bs e h u k).1))
