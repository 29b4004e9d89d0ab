-- Twins (document 02, P6; its own word): timers of which every transition starts both or neither. Before families are formed twins count as one
-- timer, the lowest of them, live wherever any of them is. First in the words of transitions and paths, then computed; that both agree is shown in
-- proofs/Twins.
use Rattle.std.specs.Prelude.{◌≡◌, Bool, not, List, map, ℕ, ◌≤◌}
use Rattle.std.specs.Bool.{xor}
use Rattle.timer_set.specs.Members.{member, image}
use Rattle.lists.specs.Lists.{memb, any_of, lowest}
use Rattle.model.specs.Chart.{Transition, Chart, Nth}
use Rattle.model.specs.Path.{Live}
use Rattle.model.specs.Live.{starts_set, live_sets}

-- j and k are twins: every transition starts both or neither
pub record Twins (c : Chart) (j k : ℕ) : Type 0 where
  pub together : (i : ℕ) (r : Transition) → Nth c i r → memb j r.starts ≡ memb k r.starts

-- m is the lowest twin of j; it need not be live or tested anywhere
pub record LowestTwin (c : Chart) (j m : ℕ) : Type 0 where
  pub twin : Twins c j m
  pub lowest : (k : ℕ) → Twins c j k → m ≤ k

-- a twin of j is live at q
pub record TwinLive (c : Chart) (q j : ℕ) : Type 0 where
  pub twin : ℕ
  pub is_twin : Twins c j twin
  pub live : Live c q twin

-- ---- the same, computed

-- of the sets of the list each has both j and k or neither
unfoldable pub in_same_sets : List ℕ → (j k : ℕ) → Bool
in_same_sets ws j k = not (any_of (λ w. xor (member w j) (member w k)) ws)

-- the lowest of n timers that is in the same sets as j, or n if none is
unfoldable pub lowest_in_same : List ℕ → (n j : ℕ) → ℕ
lowest_in_same ws n j = lowest (in_same_sets ws j) n

-- the lowest twin of j
unfoldable pub lowest_twin : Chart → ℕ → ℕ
lowest_twin c j = lowest_in_same (map starts_set c.transitions) c.timers j

-- of each location its live set with twins counted as one: the lowest twin in place of each timer
unfoldable pub merged_sets : Chart → List ℕ
merged_sets c = map (image (lowest_twin c)) (live_sets c)
