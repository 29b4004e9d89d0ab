-- What a numbering has to keep for the rewritten chart to behave as the drawn one. First fit keeps it; so would any other plan. The laws ask nothing
-- of transitions that leave a location which no path reaches.
use Rattle.std.specs.Prelude.{◌≡◌, true, false, List, ℕ, ◌<◌}
use mathlib.Core.Option.{some}
use Rattle.lists.specs.Lists.{memb}
use Rattle.model.specs.Chart.{Test, Transition, Chart, Nth, tested}
use Rattle.model.specs.Path.{ReadAt, Reached}
use Rattle.model.specs.Rewrite.{Numbering}

-- timer j has the number k at q
abbrev pub Has : Numbering → (q j k : ℕ) → Type 0
Has N q j k = N.number q j ≡ some k

-- every timer that a test of the list reads has a number at q
abbrev pub Numbered : Numbering → (q : ℕ) → List Test → Type 0
Numbered N q ts = (j : ℕ) → tested j ts ≡ true → (k : ℕ) × Has N q j k

-- every transition that leaves a reached location starts both or neither
abbrev pub Together : Chart → (j k : ℕ) → Type 0
Together c j k = (i : ℕ) (r : Transition) → Nth c i r → Reached c r.source → memb j r.starts ≡ memb k r.starts

-- a plan: what a numbering has to keep
pub record Plan (c : Chart) (N : Numbering) : Type 0 where
  -- no timer has a number at the initial location
  pub begins : (j k : ℕ) → Has N c.initial j k → ⊥
  -- a timer that is read has a number there
  pub reads : (q j : ℕ) → Reached c q → ReadAt c q j → (k : ℕ) × Has N q j k
  -- over a transition that does not start it, a timer has had its number before
  pub keeps : (i : ℕ) (r : Transition) (j k : ℕ) → Nth c i r → Reached c r.source → memb j r.starts ≡ false
      → Has N r.target j k → Has N r.source j k
  -- only timers that are always started together share a number at a location
  pub apart : (q j j' k : ℕ) → Reached c q → Has N q j k → Has N q j' k → Together c j j'
  pub below : (q j k : ℕ) → Has N q j k → k < N.used
