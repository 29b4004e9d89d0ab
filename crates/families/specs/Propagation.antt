-- The links that have timers, as a list, and the families that begin at one location, as a set of timers at each location.
use Rattle.std.specs.Prelude.{◌≡◌, ◌⊎◌, Bool, true, false, List, ℕ, ◌≤◌, ◌<◌, length, get_or, take, set}
use mathlib.Core.Option.{some}
use lib.ListN.{get_elem?}
use Rattle.lists.specs.Lists.{sum_of}
use Rattle.timer_set.specs.Members.{member, joined, common}
use Rattle.model.specs.Family.{Link, Pairs, Joined}
use Rattle.lists.specs.Elements.{Element}
use Rattle.chart_lists.specs.Limits.{most_locations}
use Rattle.families.specs.declared.links.Link.{Link as StoredLink}
use Rattle.families.specs.declared.links.Links.{Links}

-- the links in use
abbrev pub stored : Links → List StoredLink
stored l = take l.count l.all

-- what stands past the end of a list of links
abbrev pub no_link : StoredLink
no_link = record { one = 0; other = 0; timers = record { bits = 0 } }

-- the ends and the timers of the link at place k of the list
abbrev pub one_on : List StoredLink → ℕ → ℕ
one_on links k = (get_or links k no_link).one

abbrev pub other_on : List StoredLink → ℕ → ℕ
other_on links k = (get_or links k no_link).other

abbrev pub timers_on : List StoredLink → ℕ → ℕ
timers_on links k = (get_or links k no_link).timers.bits

unfoldable pub link_on : (links : List StoredLink) → ℕ → Link
link_on links k = record { one = one_on links k; other = other_on links k; timers = timers_on links k }

-- the list has the links of p that have timers: the two ends of each, and its timers
pub record LinkLists (p : Pairs) (links : List StoredLink) : Type 0 where
  pub each : (k : ℕ) → k < length links → Element p.links (link_on links k)
  pub all : (i : ℕ) (l : Link) → get_elem? p.links i ≡ some l → (l.timers ≡ 0) ⊎ ((k : ℕ) × (k < length links) × (link_on links k ≡ l))

-- what the code asks for its safety: every link between two of so many locations
pub record Ends (locations : ℕ) (links : List StoredLink) : Type 0 where
  pub few_locations : locations ≤ most_locations
  pub one_below : (k : ℕ) → k < length links → one_on links k < locations
  pub other_below : (k : ℕ) → k < length links → other_on links k < locations

-- at each location stand those timers of the set whose family from (q, j) on has the location
pub record Propagated (p : Pairs) (q roots : ℕ) (sets : List ℕ) : Type 0 where
  pub has : (s j : ℕ) → member roots j ≡ true → Joined p j q s → member (get_or sets s 0) j ≡ true
  pub from : (s j : ℕ) → member (get_or sets s 0) j ≡ true → (member roots j ≡ true) × Joined p j q s

-- from `end` on all sets are empty
pub record EmptyFrom (end : ℕ) (sets : List ℕ) : Type 0 where
  pub inside : end ≤ length sets
  pub empty : (s : ℕ) → end ≤ s → get_or sets s 0 ≡ 0

-- ---- how they are found: each link gives both its ends the timers of the link that either has, until no set grows

unfoldable pub join_along : (sets : List ℕ) (one other timers : ℕ) → List ℕ
join_along sets one other timers =
    let either = common (joined (get_or sets one 0) (get_or sets other 0)) timers in
    set (set sets one (joined (get_or sets one 0) either)) other (joined (get_or sets other 0) either)

-- the sets at both ends have the same timers of the link
pub record EndsAgree (sets : List ℕ) (one other timers : ℕ) : Type 0 where
  pub at : (j : ℕ) → member timers j ≡ true → member (get_or sets one 0) j ≡ member (get_or sets other 0) j

-- r says whether an end lacked one of the link's timers that the other had, and now both have it
pub record JoinedEnds (before : List ℕ) (one other timers : ℕ) (after : List ℕ) (r : Bool) : Type 0 where
  pub same : r ≡ false → (after ≡ before) × EndsAgree before one other timers
  pub grew : r ≡ true → (after ≡ join_along before one other timers) × (sum_of before < sum_of after)

-- m comes from l by joins along links of the list
pub data Joins (links : List StoredLink) (l : List ℕ) : List ℕ → Type 0 where
  none : Joins links l l
  more : {m : List ℕ} (k : ℕ) → k < length links → Joins links l m
      → Joins links l (join_along m (one_on links k) (other_on links k) (timers_on links k))

-- the sets after joins along the first n links: grew says whether one grew, and if not, each of these links agrees
pub record Swept (links : List StoredLink) (n : ℕ) (before after : List ℕ) (grew : Bool) : Type 0 where
  pub joins : Joins links before after
  pub same : grew ≡ false → (after ≡ before) × ((k : ℕ) → k < n → EndsAgree after (one_on links k) (other_on links k) (timers_on links k))
  pub grows : grew ≡ true → sum_of before < sum_of after
