-- What a turn of the loops over the transitions may read, of lists that hold a chart and of the cells of its numbering.
use mathlib.Core.Path.{◌≡◌}
use mathlib.Core.List.{List}
use Prim.Native.Nat.{ℕ, ◌+◌, ◌-◌, ◌*◌, ◌≤◌, ◌<◌}
use native.Mathlib.Omega.{arith}
use lib.ListN.{length, get_or, take, drop, length-take, length-drop}
use Rattle.std.proofs.Common.{get_or-take, get_or-drop}
use Rattle.model.specs.Chart.{Transition, Chart, Nth}
use Rattle.model.specs.Valid.{Valid}
use Rattle.model.specs.Rewrite.{Numbering}
use Rattle.model.proofs.Transitions.{nth_valid}
use Rattle.chart_lists.specs.Limits.{most_locations}
use Rattle.chart_lists.specs.Lists.{lists_of}
use Rattle.chart_lists.specs.Header.{header_of}
use Rattle.chart_lists.specs.declared.Header.{Header}
use Rattle.chart_lists.specs.Begins.{Begins}
use Rattle.chart_lists.specs.Holds.{Holds}
use Rattle.chart_lists.specs.Partly.{edges_of, tests_of}
use Rattle.chart_lists.proofs.Begins.{begins_room}
use Rattle.chart_lists.proofs.Holds.{sources_each, targets_each, starts_each, test_counts_each}
use Rattle.chart_lists.proofs.Fronts.{transitions_are}
use Rattle.chart_lists.proofs.InTurn.{tests_before, nth_transition, source_at, target_at, test_count_at, timers_room, timers_small}
use Rattle.renaming.specs.Renaming.{CellsOf}
use Rattle.renaming.proofs.Sets.{row_room}

-- entry number i of both lists, and the row of the location that the first has there
pub record RowAt (locations others cells : List ℕ) (i : ℕ) : Type 0 where
  pub in_locations : i < length locations
  pub in_others : i < length others
  pub few : get_or locations i 0 < most_locations
  pub row : 64 * get_or locations i 0 + 64 ≤ length cells

module _ (c : Chart) {m : Header} (is : m ≡ header_of c) {N : Numbering} {cells : List ℕ} (cs : CellsOf c N cells)
    {i : ℕ} (below : i < m.transitions) where
  transition : (r : Transition) × Nth c i r
  transition = nth_transition c i (omega (arith, transitions_are c is))

  row_at : {W : ℕ} → Valid W c → {xs ys locations others : List ℕ} → Begins xs locations → Begins ys others → length xs ≡ length c.transitions
      → length ys ≡ length c.transitions → (q : ℕ) → get_or locations i 0 ≡ q → q < c.locations → RowAt locations others cells i
  row_at valid a b x y q e h = record {
    in_locations = omega (arith, begins_room a, x, transitions_are c is);
    in_others = omega (arith, begins_room b, y, transitions_are c is);
    few = omega (arith, e, h, valid.few_locations);
    row = rw e (row_room valid cs q h);
  }

  pub starts_turn : {targets starts : List ℕ} → Holds c (edges_of c (lists_of c).sources targets starts) → RowAt targets starts cells i
  starts_turn h =
      let n = transition.1 in
      row_at h.valid h.targets h.starts (targets_each c) (starts_each c) _ (target_at n h.targets) (nth_valid h.valid n).target

  module _ {sources test_counts timers : List ℕ} (h : Holds c (tests_of c sources test_counts timers)) where
    pub tests_turn : RowAt sources test_counts cells i
    tests_turn =
        let n = transition.1 in
        row_at h.valid h.sources h.test_counts (sources_each c) (test_counts_each c) _ (source_at n h.sources)
        (nth_valid h.valid n).source

    -- the timers of the next transition's tests
    module _ {base : ℕ} (at : base ≡ tests_before c i) where
      pub timers_there : base + get_or test_counts i 0 ≤ length (lists_of c).timers
      timers_there = omega (arith, at, test_count_at transition.1 h.test_counts, timers_room transition.1)

      pub timers_in : base + get_or test_counts i 0 ≤ length timers
      timers_in = omega (arith, timers_there, begins_room h.timers)

      pub timers_few : (k : ℕ) → k < get_or test_counts i 0 → get_or timers (base + k) 0 < 64
      timers_few k l =
          rw at (timers_small transition.1 h.valid h.timers k (omega (arith, test_count_at transition.1 h.test_counts)))

-- so many entries from a place on, as a part of a list
module _ (xs : List ℕ) (base count : ℕ) (h : base + count ≤ length xs) where
  pub part_length : length (take ((base + count) - base) (drop base xs)) ≡ count
  part_length = simp (length-take, length-drop) (omega arith)

  pub part_at : (k : ℕ) → k < count → get_or (take ((base + count) - base) (drop base xs)) k 0 ≡ get_or xs (base + k) 0
  part_at k l = let m : k < (base + count) - base = omega arith in rw (get_or-take, get_or-drop)
