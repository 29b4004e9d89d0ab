-- Families (document 01, "Live, born, family, board number"), over any pairs and links; those of a chart are formed with twins counted as one timer
-- (document 02, P6).
use Rattle.std.specs.Prelude.{◌≡◌, Bool, true, false, ◌&&◌, List, [], ◌∷◌, ◌++◌, map, ℕ, ◌+◌, ◌*◌, ◌^◌, ◌≤◌, ◌<◌, eqb, get_or}
use lib.ListN.{get_elem?}
use mathlib.Core.Option.{some}
use Rattle.timer_set.specs.Members.{member, common, minus, every_timer}
use Rattle.lists.specs.Lists.{any_of, memb, lowest, gather, pick}
use Rattle.model.specs.Chart.{Transition, Chart}
use Rattle.model.specs.Chain.{Chain, Between}
use Rattle.model.specs.Flow.{Flow, settled}
use Rattle.model.specs.Live.{starts_set}
use Rattle.model.specs.Twins.{merged_sets}

-- the pairs (one, j) and (other, j) are linked for each timer j of the set
pub record Link : Type 0 where
  pub one : ℕ
  pub other : ℕ
  pub timers : ℕ

-- the pairs (q, j): j is in the set of q; and their links
pub record Pairs : Type 0 where
  pub locations : ℕ
  pub timers : ℕ
  pub sets : List ℕ
  pub links : List Link

-- (q, j) is one of the pairs
unfoldable pub is_pair : Pairs → (q j : ℕ) → Bool
is_pair p q j = member (get_or p.sets q 0) j

-- what a transition links: the timers that it does not start and that are live at both its ends
abbrev pub link_of : (live : List ℕ) → Transition → Link
link_of live r = record {
  one = r.source;
  other = r.target;
  timers = minus (common (get_or live r.source 0) (get_or live r.target 0)) (starts_set r);
}

-- the pairs of a chart with these timers live at its locations, linked by its transitions
abbrev pub pairs_with : Chart → (live : List ℕ) → Pairs
pairs_with c live = record {
  locations = c.locations;
  timers = c.timers;
  sets = live;
  links = map (link_of live) c.transitions;
}

-- the pairs of a chart: the live timers of each location, twins counted as one (document 02, P6)
unfoldable pub live_pairs : Chart → Pairs
live_pairs c = let live = merged_sets c in pairs_with c live

-- ---- pairs that are well formed: their locations and timers are in range, and so are the links

-- the link's ends are locations, and each of its timers is a pair at both
pub record WellFormedLink (p : Pairs) (l : Link) : Type 0 where
  pub one : l.one < p.locations
  pub other : l.other < p.locations
  pub pair_one : (j : ℕ) → member l.timers j ≡ true → is_pair p l.one j ≡ true
  pub pair_other : (j : ℕ) → member l.timers j ≡ true → is_pair p l.other j ≡ true

-- all pairs and all links are in range
pub record WellFormed (p : Pairs) : Type 0 where
  pub few_timers : p.timers ≤ 64
  pub location : (q j : ℕ) → is_pair p q j ≡ true → q < p.locations
  pub timer : (q j : ℕ) → is_pair p q j ≡ true → j < p.timers
  pub link : (i : ℕ) (l : Link) → get_elem? p.links i ≡ some l → WellFormedLink p l

-- ---- a family, by chains of links

-- a link joins (q, j) and (s, j)
pub record Linked (p : Pairs) (j q s : ℕ) : Type 0 where
  pub number : ℕ
  pub link : Link
  pub is_nth : get_elem? p.links number ≡ some link
  pub holds : member link.timers j ≡ true
  pub ends : Between link.one link.other q s

-- (s, j) is of the family of (q, j): a chain of links joins them
pub record Joined (p : Pairs) (j q s : ℕ) : Type 0 where
  pub way : List ℕ
  pub chain : Chain (Linked p j) q way s

-- ---- the same, computed

-- a family: its timer, its locations, rising, and the lowest of them
pub record Family : Type 0 where
  pub timer : ℕ
  pub first : ℕ
  pub locations : List ℕ

-- the pair (q, j) is of the family
abbrev pub has : Family → (q j : ℕ) → Bool
has f q j = eqb f.timer j && memb q f.locations

-- its number: the smallest 64 times location plus timer among its pairs
unfoldable pub family_number : Family → ℕ
family_number f = 64 * f.first + f.timer

-- what is at q passes along every link to and fro, of each link its timers
unfoldable pub link_flow : Pairs → (j q : ℕ) → Flow
link_flow p j q = record {
  locations = p.locations;
  own = λ s. elim (eqb s q) [ true ↦ 2 ^ j | false ↦ 0 ];
  edges = map (λ (l : Link). record { into = l.one; from = l.other; cut = minus every_timer l.timers; gain = 0 }) p.links
      ++ map (λ (l : Link). record { into = l.other; from = l.one; cut = minus every_timer l.timers; gain = 0 }) p.links;
}

-- the family of the pair (q, j)
unfoldable pub family_of : Pairs → (q j : ℕ) → Family
family_of p q j = let sets = settled (link_flow p j q) in record {
  timer = j;
  first = lowest (λ s. member (get_or sets s 0) j) p.locations;
  locations = pick (λ s. member (get_or sets s 0) j) p.locations;
}

-- the family of the pair (q, j), if q is its lowest location
unfoldable pub family_from : Pairs → (q j : ℕ) → List Family
family_from p q j = elim (is_pair p q j) [
  | false ↦ []
  | true ↦ let f = family_of p q j in elim (eqb f.first q) [ true ↦ f ∷ [] | false ↦ [] ]
]

-- all families, each once, by rising number
unfoldable pub families : Pairs → List Family
families p = gather (λ q. gather (λ j. family_from p q j) p.timers) p.locations

-- two families meet if they contain a common location
unfoldable pub meets : Family → Family → Bool
meets f g = any_of (λ q. memb q g.locations) f.locations
