-- The flow that lists of code describe: of each location its own set; of each edge the location that it leads into, the one that it comes from, the
-- timers that it cuts and those that it gains.
use Rattle.std.specs.Prelude.{◌≡◌, List, ℕ, ◌≤◌, ◌<◌, length, get_or}
use denote.Triple.Both.{Both}
use Rattle.lists.specs.Lists.{up_to}
use Rattle.model.specs.Flow.{Edge, Flow}
use Rattle.chart_lists.specs.Lent.{Slice}
use Rattle.chart_lists.specs.Limits.{most_locations, most_transitions}

unfoldable pub edge_at : (into from cut gain : List ℕ) → ℕ → Edge
edge_at into from cut gain i = record { into = get_or into i 0; from = get_or from i 0; cut = get_or cut i 0; gain = get_or gain i 0 }

unfoldable pub flow_of : (into from cut gain own : List ℕ) → Flow
flow_of into from cut gain own = record {
  locations = length own;
  own = λ q. get_or own q 0;
  edges = up_to (edge_at into from cut gain) (length into);
}

-- the flow of the lists that a call was lent, as an `ensures` names them
abbrev pub flow_lent : (into from cut gain own : Both Slice Slice) → Flow
flow_lent i f k g o = flow_of i.entry.now f.entry.now k.entry.now g.entry.now o.entry.now

-- what the code asks for its safety: lists of one length, no longer than a chart's, and every edge between two locations
pub record SafeEdges (into from cut gain own : List ℕ) : Type 0 where
  pub froms : length from ≡ length into
  pub cuts : length cut ≡ length into
  pub gains : length gain ≡ length into
  pub edges : length into ≤ most_transitions
  pub locations : length own ≤ most_locations
  pub into_below : (i : ℕ) → i < length into → get_or into i 0 < length own
  pub from_below : (i : ℕ) → i < length into → get_or from i 0 < length own
