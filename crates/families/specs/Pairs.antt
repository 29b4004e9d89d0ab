-- The pairs and links that lists of code describe.
use Rattle.std.specs.Prelude.{◌≡◌, List, ℕ, ◌^◌, ◌≤◌, ◌<◌, length, get_or}
use Rattle.lists.specs.Lists.{up_to}
use Rattle.timer_set.specs.Members.{common, minus}
use Rattle.model.specs.Family.{Link, Pairs}
use Rattle.families.specs.declared.LiveChart.{LiveChart}
use Rattle.chart_lists.specs.Limits.{most_locations, most_timers, most_transitions}

-- of each transition its source, its target and the set that it starts; of each location its live set, twins counted as one
unfoldable pub link_at : (sources targets starts live : List ℕ) → ℕ → Link
link_at sources targets starts live i = record {
  one = get_or sources i 0;
  other = get_or targets i 0;
  timers = minus (common (get_or live (get_or sources i 0) 0) (get_or live (get_or targets i 0) 0)) (get_or starts i 0);
}

unfoldable pub pairs_of : (sources targets starts live : List ℕ) → (timers : ℕ) → Pairs
pairs_of sources targets starts live timers = record {
  locations = length live;
  timers = timers;
  sets = live;
  links = up_to (link_at sources targets starts live) (length sources);
}

-- what the code asks for its safety, and that no set has a timer at or above the number of timers
pub record SafeTransitions (sources targets starts live : List ℕ) (timers : ℕ) : Type 0 where
  pub few_targets : length targets ≡ length sources
  pub few_starts : length starts ≡ length sources
  pub few_transitions : length sources ≤ most_transitions
  pub few_locations : length live ≤ most_locations
  pub few_timers : timers ≤ most_timers
  pub source_below : (i : ℕ) → i < length sources → get_or sources i 0 < length live
  pub target_below : (i : ℕ) → i < length sources → get_or targets i 0 < length live
  pub live_below : (q : ℕ) → get_or live q 0 < 2 ^ timers

-- the same of a chart's lists that are lent in one struct
abbrev pub pairs_in : LiveChart → Pairs
pairs_in c = pairs_of c.sources.now c.targets.now c.starts.now c.live.now c.timers

abbrev pub SafeChart : LiveChart → Type 0
SafeChart c = SafeTransitions c.sources.now c.targets.now c.starts.now c.live.now c.timers
