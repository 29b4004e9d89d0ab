-- The fronts of a chart's lists are what the rounds and the numbering of live sets ask for, and what these leave is the chart's.
use mathlib.Core.Path.{◌≡◌, sym, ap, ◌∙◌, subst}
use mathlib.Core.List.{List, ◌++◌}
use Prim.Native.Nat.{ℕ, ◌≤◌}
use native.Mathlib.Omega.{arith}
use lib.ListN.{length, take, replicate, length-replicate}
use lib.Seq.{take_at}
use Rattle.lists.proofs.Zeros.{take_zeros}
use Rattle.model.specs.Chart.{Chart}
use Rattle.model.specs.Valid.{Valid}
use Rattle.model.specs.Places.{AllReached}
use Rattle.model.specs.Spare.{reached_part}
use Rattle.model.specs.Flow.{Flow, settled, rounds}
use Rattle.model.specs.Live.{tested_sets, live_flow, live_sets, live_rounds}
use Rattle.model.specs.Family.{families, live_pairs}
use Rattle.model.proofs.ReachedPart.{part_whole}
use Rattle.chart_lists.specs.Limits.{most_locations}
use Rattle.chart_lists.specs.Lists.{lists_of}
use Rattle.chart_lists.specs.declared.Header.{Header}
use Rattle.chart_lists.specs.Begins.{Begins}
use Rattle.chart_lists.proofs.Fronts.{locations_are, timers_are, each_front, sources_front, targets_front, starts_front, begins_front}
use Rattle.flow.specs.Edges.{flow_of, SafeEdges}
use Rattle.flow.proofs.ChartFlows.{tested_each, live_flow_lem, live_safe}
use Rattle.allocation.specs.FamiliesAt.{FamiliesAt}
use Rattle.allocation.specs.declared.Allocated.{Allocated}
use Rattle.twins.specs.LiveNumbered.{LiveLists, LiveNumbered}
use Rattle.spare.specs.declared.Transitions.{Transitions}
use Rattle.numbering.specs.Held.{ChartHeld}
use Rattle.numbering.specs.ChartNumbered.{ChartNumbered}
use Rattle.numbering.specs.declared.Numbered.{Numbered}
use Rattle.numbering.proofs.NumberedFile.{live_front}

-- the part of a list that is lent, and the empty sets that are lent
abbrev part : Header → List ℕ → List ℕ
part m l = take m.transitions l

abbrev own : Header → List ℕ
own m = take m.locations (replicate most_locations 0)

module _ (c : Chart) {m : Header} {x : Transitions} (h : ChartHeld c m x) where
  pub few : m.locations ≤ most_locations
  few = omega (arith, locations_are c h.header_is, h.edges.valid.few_locations)

  own_are : own m ≡ replicate c.locations 0
  own_are = take_zeros m.locations most_locations few ∙ ap {B = List ℕ} (λ (n : ℕ). replicate n 0) (locations_are c h.header_is)

  pub own_length : length (own m) ≡ m.locations
  own_length = ap length own_are ∙ length-replicate {A = ℕ} c.locations 0 ∙ sym (locations_are c h.header_is)

  sources_are : part m x.sources.now ≡ (lists_of c).sources
  sources_are = sources_front c h.header_is h.edges.sources

  targets_are : part m x.targets.now ≡ (lists_of c).targets
  targets_are = targets_front c h.header_is h.edges.targets

  starts_are : part m x.starts.now ≡ (lists_of c).starts
  starts_are = starts_front c h.header_is h.edges.starts

  tested_front : part m x.tested.now ≡ tested_sets c
  tested_front = each_front c h.header_is (tested_each c) h.tested_are

  pub settle_safe : SafeEdges (part m x.sources.now) (part m x.targets.now) (part m x.starts.now) (part m x.tested.now) (own m)
  settle_safe = rw (sources_are, targets_are, starts_are, tested_front, own_are) (live_safe h.edges.valid)

  -- the flow of the fronts
  abbrev flow : Flow
  flow = flow_of (part m x.sources.now) (part m x.targets.now) (part m x.starts.now) (part m x.tested.now) (own m)

  flow_is : flow ≡ live_flow c
  flow_is = rw (sources_are, targets_are, starts_are, tested_front, own_are) (live_flow_lem h.edges.valid)

  pub live_found : {live : List ℕ} (rest : List ℕ) {n : ℕ} → live ≡ settled flow → n ≡ rounds flow
      → Begins (live_sets c) (live ++ rest) × (n ≡ live_rounds c)
  unfolding live_sets live_rounds
  live_found rest made e = (begins_front rest (made ∙ ap settled flow_is), e ∙ ap rounds flow_is)

  module _ {live : List ℕ} (b : Begins (live_sets c) live) where
    -- the lists that the numbering of live sets is lent
    pub live_lists : LiveLists c (part m x.sources.now) (part m x.targets.now) (part m x.starts.now) (take m.locations live) m.timers
    live_lists = record {
      width = h.edges.width;
      valid = h.edges.valid;
      sources_are = sources_are;
      targets_are = targets_are;
      starts_are = starts_are;
      live_are = live_front c (locations_are c h.header_is) b;
      timers_are = timers_are c h.header_is;
    }

    -- what it leaves is the chart's
    pub numbered : {merged cells at : List ℕ} (after beyond past : List ℕ) {l : Allocated} {r : Numbered} → LiveNumbered c merged cells at l
        → length at ≡ m.locations → r.used ≡ l.used → r.families ≡ l.families → r.rounds ≡ live_rounds c
        → ChartNumbered c live (merged ++ after) (cells ++ beyond) (at ++ past) r
    numbered {at = at} after beyond past y long u f n = record {
      live_are = b;
      merged_are = begins_front after y.merged_are;
      cells_are = begins_front beyond y.cells_are;
      used_is = u ∙ y.used_is;
      families_is = f ∙ y.families_is;
      rounds_is = n;
      at_are = subst (FamiliesAt (families (live_pairs c))) (sym (take_at at past c.locations (long ∙ locations_are c h.header_is))) y.at_are;
    }

-- where every location is reached, what is left of the chart is left of the part that counts
pub whole_numbered : {W : ℕ} {c : Chart} {live merged cells at : List ℕ} {r : Numbered} → Valid W c → AllReached c
    → ChartNumbered c live merged cells at r → ChartNumbered (reached_part c) live merged cells at r
whole_numbered {live = live} {merged = merged} {cells = cells} {at = at} {r = r} valid all =
    subst (λ (d : Chart). ChartNumbered d live merged cells at r) (sym (part_whole valid all))
