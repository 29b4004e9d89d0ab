-- The sets that go forwards in the lists of a valid chart are the chart's: its unstarted sets where starts are cut, its reached sets where nothing
-- is.
use mathlib.Core.Path.{◌≡◌, ap}
use Prim.Native.Nat.{ℕ}
use lib.ListN.{length, replicate}
use Rattle.model.specs.Chart.{Chart}
use Rattle.model.specs.Valid.{Valid}
use Rattle.model.specs.Flow.{settled}
use Rattle.model.specs.Live.{reached_flow, reached_sets, unstarted_flow, unstarted_sets}
use Rattle.model.proofs.Settled.{length_settled}
use Rattle.chart_lists.specs.Lists.{lists_of}
use Rattle.chart_lists.proofs.Holds.{sources_each}
use Rattle.flow.proofs.ChartFlows.{none_each, unstarted_flow_lem, reached_flow_lem, unstarted_safe}
use Rattle.forward.specs.Forward.{forward_sets, SafeForward}

-- one set for each location
pub length_reached : (c : Chart) → length (reached_sets c) ≡ c.locations
unfolding reached_sets reached_flow
length_reached c = length_settled (reached_flow c)

pub length_unstarted : (c : Chart) → length (unstarted_sets c) ≡ c.locations
unfolding unstarted_sets unstarted_flow
length_unstarted c = length_settled (unstarted_flow c)

module _ {W : ℕ} {c : Chart} (valid : Valid W c) where
  -- nothing for each transition, as the code counts them
  none_each_lem : replicate (length (lists_of c).sources) 0 ≡ none_each c
  none_each_lem = ap (λ (n : ℕ). replicate n 0) (sources_each c)

  pub own_safe : SafeForward c.initial c.locations (lists_of c).sources (lists_of c).targets (lists_of c).starts
  own_safe = record {
    inside = valid.initial;
    edges = rw none_each_lem (unstarted_safe valid);
  }

  pub unstarted_are : forward_sets c.initial c.locations (lists_of c).sources (lists_of c).targets (lists_of c).starts ≡ unstarted_sets c
  unfolding forward_sets unstarted_sets
  unstarted_are = ap settled (rw none_each_lem (unstarted_flow_lem valid))

  pub reached_are : forward_sets c.initial c.locations (lists_of c).sources (lists_of c).targets (replicate (length (lists_of c).sources) 0)
      ≡ reached_sets c
  unfolding forward_sets reached_sets
  reached_are = ap settled (rw none_each_lem (reached_flow_lem valid))
