-- Live timers, reached locations and unstarted tests, computed by rounds of sets. What they mean by paths is in `Path`; that both agree is shown in
-- proofs/.
use Rattle.std.specs.Prelude.{Bool, true, false, not, List, [], ◌∷◌, map, ℕ, max, eqb, get_or}
use Rattle.std.specs.Int.Count.{ones}
use Rattle.timer_set.specs.Members.{member, common, every_timer, set_of}
use Rattle.lists.specs.Lists.{lowest, first_of}
use Rattle.model.specs.Chart.{Test, Transition, Chart}
use Rattle.model.specs.Flow.{Flow, settled, rounds}

-- the timers that a transition starts
unfoldable pub starts_set : Transition → ℕ
starts_set r = set_of r.starts

-- the timers that it tests
unfoldable pub tests_set : Transition → ℕ
tests_set r = set_of (map (λ (t : Test). t.timer) r.tests)

-- of each transition the set that it tests
unfoldable pub tested_sets : Chart → List ℕ
tested_sets c = map tests_set c.transitions

-- w at the initial location, nothing elsewhere
unfoldable pub at_initial : Chart → ℕ → ℕ → ℕ
at_initial c w q = elim (eqb q c.initial) [ true ↦ w | false ↦ 0 ]

-- live: backwards along each transition, but for what it starts, with what it tests
unfoldable pub live_flow : Chart → Flow
live_flow c = record {
  locations = c.locations;
  own = λ q. 0;
  edges = map (λ (r : Transition). record { into = r.source; from = r.target; cut = starts_set r; gain = tests_set r }) c.transitions;
}

-- unstarted: all timers at the initial location, forwards along each transition, but for what it starts
unfoldable pub unstarted_flow : Chart → Flow
unstarted_flow c = record {
  locations = c.locations;
  own = at_initial c every_timer;
  edges = map (λ (r : Transition). record { into = r.target; from = r.source; cut = starts_set r; gain = 0 }) c.transitions;
}

-- reached: the same with nothing cut
unfoldable pub reached_flow : Chart → Flow
reached_flow c = record {
  locations = c.locations;
  own = at_initial c every_timer;
  edges = map (λ (r : Transition). record { into = r.target; from = r.source; cut = 0; gain = 0 }) c.transitions;
}

-- the live set of each location
unfoldable pub live_sets : Chart → List ℕ
live_sets c = settled (live_flow c)

-- how many rounds find them (document 02, P3)
unfoldable pub live_rounds : Chart → ℕ
live_rounds c = rounds (live_flow c)

-- the count of ones in the fullest of the sets
unfoldable pub fullest : List ℕ → ℕ
fullest [] = 0
fullest (w ∷ ws) = max (ones w) (fullest ws)

-- of each location the timers that some path to it starts nowhere
unfoldable pub unstarted_sets : Chart → List ℕ
unstarted_sets c = settled (unstarted_flow c)

-- of each location all timers if it is reached, else none
unfoldable pub reached_sets : Chart → List ℕ
reached_sets c = settled (reached_flow c)

-- j is in the live set of q
unfoldable pub live : Chart → (q j : ℕ) → Bool
live c q j = member (get_or (live_sets c) q 0) j

-- the set has no timer
unfoldable pub is_empty : ℕ → Bool
is_empty w = eqb w 0

-- the lowest location that no path reaches, or the number of locations; 9 refuses it below version 3
unfoldable pub first_unreached : Chart → ℕ
first_unreached c = let sets = reached_sets c in lowest (λ q. is_empty (get_or sets q 0)) c.locations

-- 10: the lowest transition with an unstarted test, or the number of transitions
unfoldable pub first_unstarted : Chart → ℕ
first_unstarted c = let sets = unstarted_sets c in
    first_of (λ (r : Transition). not (is_empty (common (tests_set r) (get_or sets r.source 0)))) c.transitions
