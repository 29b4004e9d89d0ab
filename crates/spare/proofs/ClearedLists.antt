-- The lists of the chart whose transitions from spare locations are bare: its ends, events, accepting locations and header are the chart's own.
use mathlib.Core.Path.{◌≡◌, refl, sym, ap₂, subst}
use mathlib.Core.Bool.{Bool, true, false}
use mathlib.Core.List.{List, [], ◌∷◌, map}
use Prim.Native.Nat.{ℕ}
use lib.ListN.{length-map}
use Rattle.model.specs.Chart.{Transition, Chart}
use Rattle.model.specs.Live.{reached_sets}
use Rattle.model.specs.Places.{AllReached}
use Rattle.model.specs.Spare.{leaves_reached, bare, bare_unless, spare_cleared}
use Rattle.chart_lists.specs.Lists.{Lists, lists, lists_of}
use Rattle.chart_lists.specs.Header.{header_of}
use Rattle.chart_lists.specs.Holds.{Holds}
use Rattle.chart_lists.proofs.Begins.{begins_self}
use Rattle.chart_lists.proofs.Partly.{holds_of, holds_transitions}
use Rattle.spare.specs.Cleared.{transitions_of, StartsCleared, TestsCleared}
use Rattle.model.proofs.SpareCleared.{cleared_valid, cleared_whole}

-- what a bare transition keeps, all keep
same_field : (f : Transition → ℕ) → ((r : Transition) → f (bare r) ≡ f r) → (g : Transition → Bool) (rs : List Transition)
    → map f (map (λ r. bare_unless (g r) r) rs) ≡ map f rs
same_field f h g [] = refl
same_field f h g (r ∷ rs) = ap₂ ◌∷◌ (kept (g r)) (same_field f h g rs)
  where
    kept : (b : Bool) → f (bare_unless b r) ≡ f r
    kept true = refl
    kept false = h r

module _ (c : Chart) where
  same_sources : (lists_of (spare_cleared c)).sources ≡ (lists_of c).sources
  unfolding lists_of spare_cleared
  same_sources = same_field _ (λ r. refl) (leaves_reached (reached_sets c)) c.transitions

  same_targets : (lists_of (spare_cleared c)).targets ≡ (lists_of c).targets
  unfolding lists_of spare_cleared
  same_targets = same_field _ (λ r. refl) (leaves_reached (reached_sets c)) c.transitions

  same_events : (lists_of (spare_cleared c)).events ≡ (lists_of c).events
  unfolding lists_of spare_cleared
  same_events = same_field _ (λ r. refl) (leaves_reached (reached_sets c)) c.transitions

  same_accepting : (lists_of (spare_cleared c)).accepting ≡ (lists_of c).accepting
  unfolding lists_of spare_cleared
  same_accepting = refl

  pub cleared_header : header_of (spare_cleared c) ≡ header_of c
  unfolding header_of spare_cleared
  cleared_header = rw (length-map c.transitions (λ r. bare_unless (leaves_reached (reached_sets c) r) r))

module _ {c : Chart} {l : Lists} (h : Holds c l) where
  -- what the loops are lent
  pub holds_starts : Holds c (transitions_of c l.sources (lists_of c).targets l.starts l.test_counts (lists_of c).timers (lists_of c).codes
      (lists_of c).constants)
  holds_starts = holds_transitions h h.sources (begins_self _) h.starts h.test_counts (begins_self _)

  pub holds_tests : Holds c (transitions_of c l.sources (lists_of c).targets (lists_of c).starts l.test_counts l.timers l.codes
      l.constants)
  holds_tests =
      holds_of _ _ _ _ _ _ _ _ _ h.valid (begins_self _) h.sources (begins_self _) (begins_self _) (begins_self _) h.test_counts
      h.timers h.codes h.constants

  -- what they leave
  pub cleared_holds : {starts test_counts timers codes constants : List ℕ} → StartsCleared c starts test_counts
      → TestsCleared c timers codes constants
      → Holds (spare_cleared c) (transitions_of c l.sources l.targets starts test_counts timers codes constants)
  cleared_holds s t =
      holds_of _ _ _ _ _ _ _ _ _ (cleared_valid h.valid) (rw (same_accepting c) (begins_self _)) (rw (same_sources c) h.sources)
      (rw (same_targets c) h.targets) (rw (same_events c) (begins_self _)) s.starts_are s.counts_are t.timers_are t.codes_are
      t.constants_are

  -- where every location is reached there is nothing to clear
  pub whole_holds : AllReached c → Holds (spare_cleared c) l
  whole_holds all = subst (λ (d : Chart). Holds d l) (sym (cleared_whole h.valid all)) h

  -- from all lists of the chart to those that are cleared, and back
  pub holds_clearing : Holds c (transitions_of c l.sources l.targets l.starts l.test_counts l.timers l.codes l.constants)
  holds_clearing =
      holds_of _ _ _ _ _ _ _ _ _ h.valid (begins_self _) h.sources h.targets (begins_self _) h.starts h.test_counts h.timers
      h.codes h.constants

  pub holds_all : {starts test_counts timers codes constants : List ℕ}
      → Holds (spare_cleared c) (transitions_of c l.sources l.targets starts test_counts timers codes constants)
      → Holds (spare_cleared c) (lists l.accepting l.sources l.targets l.events starts test_counts timers codes constants)
  holds_all k =
      holds_of _ _ _ _ _ _ _ _ _ k.valid (rw (same_accepting c) h.accepting) k.sources k.targets (rw (same_events c) h.events)
      k.starts k.test_counts k.timers k.codes k.constants
