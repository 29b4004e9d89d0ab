-- The edges that leave each location, listed, and a worklist of locations.
use Rattle.std.specs.Prelude.{◌≡◌, ◌⊎◌, List, ℕ, suc, ◌+◌, ◌≤◌, ◌<◌, length, get_or, set}
use Rattle.lists.specs.Lists.{sum_of}
use Rattle.timer_set.specs.Members.{joined}

-- ---- the edges that leave a location, each with the next one

-- edge k is the first from number i on that leaves q, or k is the number of no edge and none does
pub record NextLeaving (from : List ℕ) (q i k : ℕ) : Type 0 where
  pub later : i ≤ k
  pub leaves : k < length from → get_or from k 0 ≡ q
  pub none_before : (j : ℕ) → i ≤ j → j < k → j < length from → get_or from j 0 ≡ q → ⊥

-- `next` of each edge is the next that leaves the same location
pub record Nexts (from next : List ℕ) : Type 0 where
  pub room : length from ≤ length next
  pub each : (i : ℕ) → i < length from → NextLeaving from (get_or from i 0) (suc i) (get_or next i 0)

-- `first` of each location is the first that leaves it
pub record Firsts (from first : List ℕ) : Type 0 where
  pub each : (q : ℕ) → q < length first → NextLeaving from q 0 (get_or first q 0)

-- the edges lead into locations, and those that leave each location are listed: its first, and of each edge the next
pub record Adjacency (locations : ℕ) (from into cut first next : List ℕ) : Type 0 where
  pub intos : length into ≡ length from
  pub cuts : length cut ≡ length from
  pub into_below : (i : ℕ) → i < length into → get_or into i 0 < locations
  pub room : locations ≤ length first
  pub firsts : Firsts from first
  pub nexts : Nexts from next

-- ---- the worklist

-- q is one of the first n locations of the list
pub record Among (list : List ℕ) (n q : ℕ) : Type 0 where
  pub place : ℕ
  pub below : place < n
  pub is_at : get_or list place 0 ≡ q

-- the locations whose entry of `idle` is 0 are among the first `depth` entries of `waiting`, and there is room for each of the others
pub record Worklist (locations : ℕ) (idle waiting : List ℕ) (depth : ℕ) : Type 0 where
  pub idles : locations ≤ length idle
  pub room : depth + sum_of idle ≤ length waiting
  pub below : (k : ℕ) → k < depth → get_or waiting k 0 < locations
  pub listed : (q : ℕ) → q < locations → get_or idle q 0 ≡ 0 → Among waiting depth q

-- timers joined to a location's set; if it has grown, the location waits
pub record JoinedInto (target timers : ℕ) (sets idle after idleAfter : List ℕ) : Type 0 where
  pub grown : after ≡ set sets target (joined (get_or sets target 0) timers)
  pub waits : ((after ≡ sets) × (idleAfter ≡ idle)) ⊎ (idleAfter ≡ set idle target 0)
