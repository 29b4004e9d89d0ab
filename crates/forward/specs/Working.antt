-- The worklist by which the sets are found: the locations that wait on it are those whose sets have grown since their transitions were last gone
-- over.
use Rattle.std.specs.Prelude.{◌≡◌, true, List, ℕ, length, get_or}
use Rattle.timer_set.specs.Members.{member}
use Rattle.model.specs.Comes.{Comes}
use Rattle.worklist.specs.Worklist.{Adjacency, Worklist}
use Rattle.worklist.specs.GoneOver.{Brought}
use Rattle.forward.specs.Forward.{own_sets, forward_flow, SafeForward}

-- sets that hold the locations' own sets and only what comes
pub record SoundSets (initial locations : ℕ) (sources targets cut sets : List ℕ) : Type 0 where
  pub long : length sets ≡ locations
  pub owns : (q b : ℕ) → member (get_or (own_sets initial locations) q 0) b ≡ true → member (get_or sets q 0) b ≡ true
  pub comes : (q b : ℕ) → member (get_or sets q 0) b ≡ true → Comes (forward_flow initial locations sources targets cut) b q

-- transition j leaves a location that does not wait
abbrev pub LeavesIdle : (sources idle : List ℕ) → ℕ → Type 0
LeavesIdle sources idle j = get_or idle (get_or sources j 0) 0 ≡ 0 → ⊥

-- where the work stands: what a transition of a location that does not wait brings has come to its target
pub record Working (initial locations : ℕ) (sources targets cut sets idle waiting : List ℕ) (depth : ℕ) : Type 0 where
  pub sound : SoundSets initial locations sources targets cut sets
  pub worklist : Worklist locations idle waiting depth
  pub brought : (q b : ℕ) → Brought sources targets cut (LeavesIdle sources idle) (λ p. get_or sets p 0) q b → member (get_or sets q 0) b ≡ true

-- the same, with the lists of the transitions that leave each location
pub record BetweenVisits (initial locations : ℕ) (sources targets cut first next sets idle waiting : List ℕ) (depth : ℕ) : Type 0 where
  pub safe : SafeForward initial locations sources targets cut
  pub adjacency : Adjacency locations sources targets cut first next
  pub working : Working initial locations sources targets cut sets idle waiting depth
