-- The reached sets of a chart, found from the fronts of lists that hold it.
use mathlib.Core.Path.{◌≡◌, sym, ◌∙◌}
use mathlib.Core.List.{List, ◌++◌}
use Prim.Native.Nat.{ℕ}
use lib.ListN.{length, take, replicate}
use Rattle.model.specs.Chart.{Chart}
use Rattle.model.specs.Live.{reached_sets}
use Rattle.chart_lists.specs.Limits.{most_locations}
use Rattle.chart_lists.specs.Lists.{Lists, lists_of}
use Rattle.chart_lists.specs.Header.{header_of}
use Rattle.chart_lists.specs.declared.Header.{Header}
use Rattle.chart_lists.specs.Begins.{Begins}
use Rattle.chart_lists.specs.Holds.{Holds}
use Rattle.chart_lists.specs.Partly.{edges_of}
use Rattle.chart_lists.proofs.Begins.{begins_self}
use Rattle.chart_lists.proofs.Partly.{holds_transitions}
use Rattle.chart_lists.proofs.Holds.{sources_each, targets_each}
use Rattle.chart_lists.proofs.Fronts.{locations_are, initial_is, sources_front, targets_front, each_part, begins_front}
use Rattle.forward.specs.Forward.{SafeForward, forward_sets}
use Rattle.forward.proofs.Lent.{none_cut, made_sets}
use Rattle.forward.proofs.ChartSets.{own_safe, reached_are}

-- the ends of the transitions are asked alone
pub holds_ends : {c : Chart} {l : Lists} → Holds c l → Holds c (edges_of c l.sources l.targets (lists_of c).starts)
holds_ends h = holds_transitions h h.sources h.targets (begins_self _) (begins_self _) (begins_self _)

module _ (c : Chart) {m : Header} (e : m ≡ header_of c) {sources targets : List ℕ}
    (h : Holds c (edges_of c sources targets (lists_of c).starts)) where
  pub sources_part : m.transitions ≡ length (take m.transitions sources)
  sources_part = sym (each_part c e (sources_each c) h.sources)

  pub targets_part : m.transitions ≡ length (take m.transitions targets)
  targets_part = sym (each_part c e (targets_each c) h.targets)

  -- nothing is cut
  abbrev none : List ℕ
  none = replicate (length (take m.transitions sources)) 0

  pub safe_fronts : SafeForward m.initial m.locations (take m.transitions sources) (take m.transitions targets) none
  safe_fronts =
      let s = sources_front c e h.sources in
      let t = targets_front c e h.targets in
      rw (initial_is c e, locations_are c e, s, t) (none_cut (own_safe h.valid))

  -- they are found over the front of an array, which the rest follows
  pub reached_begin : {sets : List ℕ} (rest : List ℕ)
      → sets ≡ forward_sets m.initial (length {A = ℕ} (take m.locations (replicate most_locations 0))) (take m.transitions sources)
      (take m.transitions targets) none → Begins (reached_sets c) (sets ++ rest)
  reached_begin rest f =
      let s = sources_front c e h.sources in
      let t = targets_front c e h.targets in
      begins_front rest ((rw (initial_is c e, locations_are c e, s, t) at (made_sets safe_fronts f rest)) ∙ reached_are h.valid)
