-- The sources and the targets of a valid chart's transitions, as its lists have them, are locations of the chart.
use mathlib.Core.List.{map}
use Prim.Native.Nat.{ℕ, ◌<◌}
use lib.ListN.{length, get_or}
use Rattle.lists.proofs.Nth.{nth_below, get_d_map}
use Rattle.model.specs.Chart.{Transition, Chart}
use Rattle.model.specs.Valid.{Valid, ValidTransition}
use Rattle.model.proofs.Transitions.{nth_valid}
use Rattle.chart_lists.specs.Lists.{lists_of}

module _ {W : ℕ} {c : Chart} (valid : Valid W c) where
  each_below : (f : Transition → ℕ) → ((r : Transition) → ValidTransition W c.locations c.timers r → f r < c.locations)
      → (i : ℕ) → i < length c.transitions → get_or (map f c.transitions) i 0 < c.locations
  each_below f h i b =
      let x = nth_below c.transitions i b in
      rw (get_d_map f c.transitions i x.1) (h x.0 (nth_valid valid {i = i} (record { there = x.1 })))

  pub sources_below : (i : ℕ) → i < length c.transitions → get_or (lists_of c).sources i 0 < c.locations
  unfolding lists_of
  sources_below = each_below (λ r. r.source) (λ r v. v.source)

  pub targets_below : (i : ℕ) → i < length c.transitions → get_or (lists_of c).targets i 0 < c.locations
  unfolding lists_of
  targets_below = each_below (λ r. r.target) (λ r v. v.target)
