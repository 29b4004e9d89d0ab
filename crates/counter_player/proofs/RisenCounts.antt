-- The counts at a reading, one changed a turn, and those that a chart's steps begin with.
use Rattle.std.proofs.Common.{◌≡◌, ℕ, ◌+◌, ◌≤◌, min, List, get_or, refl, ap, ◌∙◌, arith}
use Rattle.model.specs.Chart.{Chart}
use Rattle.model.specs.Run.{Counts}
use Rattle.steps.specs.Counts.{CountsAgree, Starting}
use Rattle.steps.proofs.MovedCounts.{ChangedTo}
use Rattle.counter_model.specs.Counter.{most_count, risen}
use Rattle.counter_model.specs.CounterRun.{counter_begin}
use Rattle.counter_player.specs.Counts.{Risen}
use Rattle.counter_player.specs.Stepping.{Shows}

-- a count d ticks later
abbrev pub risen_by : (d count : ℕ) → ℕ
risen_by d x = min (x + d) most_count

module _ (d : ℕ) (before after : List ℕ) where
  pub risen_all : (i : ℕ) → 64 ≤ i → ChangedTo (risen_by d) i before after → Risen d before after
  risen_all i h g = record { number = g.number; count = λ j l. g.done j (omega arith) }

  -- the tests are tried on these
  pub risen_agrees : (v : Counts) → CountsAgree before v → Risen d before after → CountsAgree after (risen d v)
  unfolding risen
  risen_agrees v a r = record { same = λ j h. r.count j h ∙ ap (risen_by d) (a.same j h) }

-- tick 0
pub starting_shows : {counts all : List ℕ} → Starting counts all → (c : Chart) (q first : ℕ) → q ≡ c.initial
    → Shows (record { location = q; last = first; counts = all }) (counter_begin c first (λ j. get_or counts j 0))
unfolding counter_begin
starting_shows s c q first e = record { location = e; last = refl; counts = record { same = λ j h. s.same j } }
