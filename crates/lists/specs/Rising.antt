-- Strictly rising lists, and lists of which every element keeps a property.
use Rattle.std.specs.Prelude.{List, [], ◌∷◌, ℕ, suc, ◌≤◌, ◌<◌}

-- strictly rising numbers, the first at least lo, all below the limit
abbrev pub Rising : (limit lo : ℕ) → List ℕ → Type 0
Rising limit lo [] = Unit {0}
Rising limit lo (x ∷ xs) = ((lo ≤ x) × (x < limit)) × Rising limit (suc x) xs

-- every element has the property
abbrev pub All : {A : Type 0} → (A → Type 0) → List A → Type 0
All P [] = Unit {0}
All P (x ∷ xs) = P x × All P xs
