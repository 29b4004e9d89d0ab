-- Live timers by the length of a path to a test, and the number of rounds in these words (document 02, P3). That the rounds find just this is shown
-- in proofs/LivePaths (`round_live_iff`), and of their number in proofs/LiveRounds.
use Rattle.std.specs.Prelude.{◌≡◌, ℕ, suc, ◌≤◌, ◌<◌, length}
use Rattle.model.specs.Chart.{Chart}
use Rattle.model.specs.Path.{Live}

-- live by a path of at most k transitions: its front and the one that tests
pub record LiveWithin (c : Chart) (k q j : ℕ) : Type 0 where
  pub live : Live c q j
  pub at_most : suc (length live.front) ≤ k

-- paths of at most k transitions decide which timers are live
abbrev pub Decided : Chart → ℕ → Type 0
Decided c k = (q j : ℕ) → Live c q j → LiveWithin c k q j

-- n is one more than the least k such that paths of at most k transitions decide: the last round, which changes nothing, is counted
pub record RoundsByPaths (c : Chart) (n : ℕ) : Type 0 where
  pub least : ℕ
  pub decided : Decided c least
  pub none_less : (k : ℕ) → k < least → Decided c k → ⊥
  pub last_counted : n ≡ suc least
