-- The pairs that the lists of a chart describe, twins counted as one, are the chart's, and these lists are safe.
use mathlib.Core.Path.{◌≡◌, sym, ◌∙◌}
use mathlib.Core.List.{map}
use Prim.Native.Nat.{ℕ}
use native.Mathlib.Omega.{arith}
use lib.ListN.{length, get_or, length-map}
use Rattle.lists.proofs.Nth.{get_d_map, up_to_map}
use Rattle.timer_set.specs.Members.{common, minus}
use Rattle.model.specs.Chart.{Transition, Chart}
use Rattle.model.specs.Valid.{Valid}
use Rattle.model.specs.Live.{starts_set, live_flow, live_sets}
use Rattle.model.specs.Twins.{merged_sets}
use Rattle.model.specs.Family.{live_pairs}
use Rattle.model.proofs.Settled.{length_settled}
use Rattle.model.proofs.Twins.{merged_each, merged_few}
use Rattle.chart_lists.specs.Lists.{lists_of}
use Rattle.chart_lists.proofs.Holds.{sources_each, targets_each, starts_each}
use Rattle.chart_lists.proofs.Locations.{sources_below, targets_below}
use Rattle.families.specs.Pairs.{link_at, pairs_of, SafeTransitions}

-- one set for each location
pub live_each : (c : Chart) → length (live_sets c) ≡ c.locations
unfolding live_sets live_flow
live_each c = length_settled (live_flow c)

pub chart_pairs : (c : Chart) → pairs_of (lists_of c).sources (lists_of c).targets (lists_of c).starts (merged_sets c) c.timers ≡ live_pairs c
unfolding lists_of pairs_of live_pairs link_at
chart_pairs c = λ i. record { locations = merged_each c i; timers = c.timers; sets = merged_sets c; links = links i }
  where
    links : (pairs_of (lists_of c).sources (lists_of c).targets (lists_of c).starts (merged_sets c) c.timers).links ≡ (live_pairs c).links
    links = up_to_map (record { one = 0; other = 0; timers = 0 }) _ _ c.transitions _ (length-map c.transitions _) (λ i r e.
        let here : (f : Transition → ℕ) → get_or (map f c.transitions) i 0 ≡ f r = λ f. get_d_map f c.transitions i e in
        let s = here (λ r. r.source) in
        let t = here (λ r. r.target) in
        let at : ℕ → ℕ = λ q. get_or (merged_sets c) q 0 in
        λ k. record { one = s k; other = t k; timers = minus (common (at (s k)) (at (t k))) (here starts_set k) })

module _ {W : ℕ} {c : Chart} (valid : Valid W c) where
  pub chart_safe : SafeTransitions (lists_of c).sources (lists_of c).targets (lists_of c).starts (merged_sets c) c.timers
  chart_safe = record {
    few_targets = targets_each c ∙ sym (sources_each c);
    few_starts = starts_each c ∙ sym (sources_each c);
    few_transitions = omega (arith, sources_each c, valid.few_transitions);
    few_locations = omega (arith, merged_each c, valid.few_locations);
    few_timers = valid.few_timers;
    source_below = λ i h. rw (merged_each c) (sources_below valid i (omega (arith, sources_each c)));
    target_below = λ i h. rw (merged_each c) (targets_below valid i (omega (arith, sources_each c)));
    live_below = merged_few valid;
  }
