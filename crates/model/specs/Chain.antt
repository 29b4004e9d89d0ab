-- Chains over any relation between numbers, and two ends in either order.
use Rattle.std.specs.Prelude.{◌≡◌, ◌⊎◌, List, [], ◌∷◌, ℕ}

-- each number is related to the next: from q over those of the list to s
abbrev pub Chain : (ℕ → ℕ → Type 0) → ℕ → List ℕ → ℕ → Type 0
Chain R q [] s = q ≡ s
Chain R q (x ∷ xs) s = R q x × Chain R x xs s

-- q and s are the two ends, one and other, in either order
abbrev pub Between : (one other q s : ℕ) → Type 0
Between one other q s = ((one ≡ q) × (other ≡ s)) ⊎ ((one ≡ s) × (other ≡ q))
