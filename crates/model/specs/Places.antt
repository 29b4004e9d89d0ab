-- Where a chart is refused 9 or 10, and when it is accepted, in the words of paths (document 01, "Turned down .."; document 02, P7).
use Rattle.std.specs.Prelude.{◌≡◌, false, ℕ, ◌<◌}
use Rattle.model.specs.Chart.{Transition, Chart, Nth}
use Rattle.model.specs.Version.{allows_spare}
use Rattle.model.specs.Path.{Reached, UnstartedTest}

-- transition number i has an unstarted test
pub record UnstartedAt (c : Chart) (i : ℕ) : Type 0 where
  pub transition : Transition
  pub is_nth : Nth c i transition
  pub test : UnstartedTest c transition

-- the version is one that 9 judges, and q is the lowest location that no path reaches
pub record LowestUnreached (c : Chart) (q : ℕ) : Type 0 where
  pub none_spare : allows_spare c.version ≡ false
  pub below : q < c.locations
  pub unreached : Reached c q → ⊥
  pub lower_reached : (p : ℕ) → p < q → Reached c p

-- a path reaches every location
abbrev pub AllReached : Chart → Type 0
AllReached c = (q : ℕ) → q < c.locations → Reached c q

-- what 9 refuses in every call, in the document's words: the version is below 3, and there is a location that no path reaches (proofs/Judgement,
-- `unreached_iff`)
pub record HasUnreached (c : Chart) : Type 0 where
  pub below_3 : c.version < 3
  pub not_all : AllReached c → ⊥

-- a path reaches every location of a chart of a version that 9 judges
abbrev pub ReachedIfAsked : Chart → Type 0
ReachedIfAsked c = allows_spare c.version ≡ false → AllReached c

-- 9 does not refuse the chart, and i is the lowest transition with an unstarted test; as a path leads to its source, no spare location has one
pub record LowestUnstarted (c : Chart) (i : ℕ) : Type 0 where
  pub reached : ReachedIfAsked c
  pub unstarted_test : UnstartedAt c i
  pub none_lower : (k : ℕ) → k < i → UnstartedAt c k → ⊥

-- 9 does not refuse the chart, and no transition has an unstarted test
pub record Accepted (c : Chart) : Type 0 where
  pub reached : ReachedIfAsked c
  pub no_unstarted_test : (i : ℕ) → UnstartedAt c i → ⊥
