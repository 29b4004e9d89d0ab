-- What the loops over a chart's transitions ask of transition number i: whether it leaves a reached location, and what it tests.
use mathlib.Core.Path.{◌≡◌, ap, ◌∙◌}
use mathlib.Core.Bool.{Bool, not}
use mathlib.Core.List.{List}
use Prim.Native.Nat.{ℕ, ◌<◌}
use native.Mathlib.Omega.{arith}
use lib.ListN.{length, get_or}
use Rattle.lists.proofs.Nth.{below_nth, get_d_map}
use Rattle.model.specs.Chart.{Transition, Chart, Nth}
use Rattle.model.specs.Valid.{Valid}
use Rattle.model.specs.Live.{tests_set, tested_sets, reached_sets, is_empty}
use Rattle.model.specs.Spare.{leaves_reached}
use Rattle.model.proofs.Transitions.{nth_valid}
use Rattle.chart_lists.specs.Lists.{lists_of}
use Rattle.chart_lists.specs.Begins.{Begins}
use Rattle.chart_lists.proofs.Begins.{begins_room, begins_get_d}
use Rattle.chart_lists.proofs.Holds.{sources_each}
use Rattle.chart_lists.proofs.InTurn.{nth_transition, source_at}
use Rattle.flow.proofs.ChartFlows.{tested_each}
use Rattle.forward.proofs.ChartSets.{length_reached}

-- a list with an entry for each transition has its entry
pub entry_there : (c : Chart) {xs l : List ℕ} → length xs ≡ length c.transitions → Begins xs l → {i : ℕ} → i < length c.transitions
    → i < length l
entry_there c e b h = omega (arith, begins_room b, e)

module _ {W : ℕ} {c : Chart} (valid : Valid W c) {sources reached : List ℕ} (bs : Begins (lists_of c).sources sources)
    (br : Begins (reached_sets c) reached) where
  -- its source and the source's set are there
  pub source_there : {i : ℕ} → i < length c.transitions → i < length sources
  source_there = entry_there c (sources_each c) bs

  pub set_there : {i : ℕ} → i < length c.transitions → get_or sources i 0 < length reached
  set_there {i} h =
      let x = nth_transition c i h in
      omega (arith, source_at x.1 bs, (nth_valid valid x.1).source, begins_room br, length_reached c)

  pub leaves_is : {i : ℕ} {r : Transition} → Nth c i r → {b : Bool} → b ≡ not (is_empty (get_or reached (get_or sources i 0) 0))
      → leaves_reached (reached_sets c) r ≡ b
  unfolding leaves_reached
  leaves_is {i} {r} n e =
      let at : get_or reached (get_or sources i 0) 0 ≡ get_or (reached_sets c) r.source 0 =
      ap (λ (q : ℕ). get_or reached q 0) (source_at n bs)
      ∙ begins_get_d br r.source 0 (omega (arith, (nth_valid valid n).source, length_reached c)) in
      rw (e, at)

-- the set of the timers that it tests
pub tested_at : {c : Chart} {i : ℕ} {r : Transition} → Nth c i r → {l : List ℕ} → Begins (tested_sets c) l → get_or l i 0 ≡ tests_set r
unfolding tested_sets
tested_at {c} {i} n b =
    begins_get_d b i 0 (omega (arith, below_nth c.transitions i n.there, tested_each c)) ∙ get_d_map tests_set c.transitions i n.there
