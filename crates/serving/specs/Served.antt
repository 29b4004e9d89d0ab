-- How a head's state is handed to the code that serves its event, and what that answers.
use Rattle.std.specs.Prelude.{◌≡◌, List, ℕ, ◌+◌, ◌≤◌, ◌<◌, ltb, length, get_or, Option, Some, None, if◌then◌else◌}
use Rattle.model.specs.Chart.{Chart}
use Rattle.model.specs.Run.{State, largest_time}
use Rattle.chart_lists.specs.declared.ChartLists.{ChartLists}
use Rattle.chart_lists.specs.Lists.{Lists, lists, lists_of}
use Rattle.steps.specs.Counts.{CountsAgree}
use Rattle.controller_model.specs.declared.Head.{Head}
use Rattle.controller_model.specs.Serving.{lowest_to_take, left_by}
use Rattle.serving.specs.declared.Served.{Served}

-- these lists, with the chart's own accepting locations, which no event looks at
abbrev pub event_lists : Chart → (sources targets events starts test_counts timers codes constants : List ℕ) → Lists
event_lists c s t e w g j x k = lists (lists_of c).accepting s t e w g j x k

-- those by which a transition is chosen
abbrev pub choice_lists : Chart → (sources events test_counts timers codes constants : List ℕ) → Lists
choice_lists c s e g j x k = event_lists c s (lists_of c).targets e (lists_of c).starts g j x k

-- both of lists that are handed over together
abbrev pub lists_served : Chart → ChartLists → Lists
lists_served c x =
    event_lists c x.sources.now x.targets.now x.events.now x.starts.now x.test_counts.now x.timers.now x.codes.now x.constants.now

abbrev pub lists_chosen : Chart → ChartLists → Lists
lists_chosen c x = choice_lists c x.sources.now x.events.now x.test_counts.now x.timers.now x.codes.now x.constants.now

-- what 32 leaves of a head at which an event waits, and of its 64 counts
pub record SoundServing (d : Head) (own : List ℕ) : Type 0 where
  pub number : length own ≡ 64
  pub later : d.time ≤ d.waiting_time
  pub small : d.waiting_time ≤ largest_time
  pub counts : (j : ℕ) → j < 64 → get_or own j 0 ≤ d.time + largest_time

-- the head with these counts is the state x of its chart's run
pub record HeadShows (d : Head) (own : List ℕ) (x : State) : Type 0 where
  pub location : d.location ≡ x.location
  pub time : d.time ≡ x.time
  pub counts : CountsAgree own x.counts

-- a number that is found below n
abbrev pub found_below : (n i : ℕ) → Option ℕ
found_below n i = if ltb i n then Some i else None

-- the transition that is taken for event e at time t, if one is, and where and with which counts the head is left
pub record ServedAs (c : Chart) (x : State) (e t : ℕ) (r : Served) : Type 0 where
  pub number : length r.counts ≡ 64
  pub transition : r.transition ≡ found_below (length c.transitions) (lowest_to_take c x e t)
  pub location : r.location ≡ (left_by c x (lowest_to_take c x e t) t).location
  pub counts : CountsAgree r.counts (left_by c x (lowest_to_take c x e t) t).counts
