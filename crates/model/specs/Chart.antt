-- A chart: locations, timers and transitions, all numbered from 0 (document 01, "The chart").
use Rattle.std.specs.Prelude.{◌≡◌, Bool, List, ℕ, eqb}
use mathlib.Core.Option.{some}
use lib.ListN.{get_elem?}
use Rattle.comparison.specs.declared.Comparison.{Comparison}
use Rattle.lists.specs.Lists.{any_of}

-- the count of a timer against a constant
pub record Test : Type 0 where
  pub timer : ℕ
  pub comparison : Comparison
  pub constant : ℕ

-- from a location to a location, on an event: what it starts and what it tests
pub record Transition : Type 0 where
  pub source : ℕ
  pub target : ℕ
  pub event : ℕ
  pub starts : List ℕ
  pub tests : List Test

-- as it is drawn: accepting locations rise, and so do the starts of a transition (`Valid`); with the version of its file
pub record Chart : Type 0 where
  pub version : ℕ
  pub locations : ℕ
  pub initial : ℕ
  pub timers : ℕ
  pub accepting : List ℕ
  pub transitions : List Transition

-- r is the chart's transition number i
pub record Nth (c : Chart) (i : ℕ) (r : Transition) : Type 0 where
  pub there : get_elem? c.transitions i ≡ some r

-- a test of the list tests timer j
unfoldable pub tested : ℕ → List Test → Bool
tested j ts = any_of (λ t. eqb j t.timer) ts
