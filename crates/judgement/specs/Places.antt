-- The places of 9 and 10, in the terms that code has: lists. They are found from the sets of timers that go forwards along the transitions. That they
-- are those of the chart whose lists these are is shown in proofs/.
use Rattle.std.specs.Prelude.{true, false, List, ℕ, leb, ltb, length, get_or, replicate}
use Rattle.lists.specs.Lists.{lowest}
use Rattle.model.specs.Answer.{Answer, returned, unless}
use Rattle.model.specs.Version.{allows_spare}
use Rattle.model.specs.Live.{is_empty}
use Rattle.forward.specs.Forward.{forward_sets}
use Rattle.chart_lists.specs.declared.Header.{Header}
use Rattle.judgement.specs.Tested.{tests_at}

-- the first empty set, or the number of sets
unfoldable pub first_empty : List ℕ → ℕ
first_empty sets = lowest (λ q. is_empty (get_or sets q 0)) (length sets)

-- the first location that is not reached, or the number of locations: from the unstarted sets, where timer 63 is none of the chart's, else from sets
-- of which nothing is cut
unfoldable pub unreached_in : (timers initial : ℕ) → (sources targets unstarted : List ℕ) → ℕ
unreached_in timers initial sources targets unstarted =
    elim (ltb timers 64) [
      | true ↦ first_empty unstarted
      | false ↦ first_empty (forward_sets initial (length unstarted) sources targets (replicate (length sources) 0))
    ]

-- the place of 9, or the number of locations where the version allows spare ones or all are reached
unfoldable pub refused_in : (version timers initial : ℕ) → (sources targets unstarted : List ℕ) → ℕ
refused_in version timers initial sources targets unstarted =
    elim (allows_spare version) [ true ↦ length unstarted | false ↦ unreached_in timers initial sources targets unstarted ]

-- 9, then 10, else the header
unfoldable pub judged_lists : Header → (sources targets starts tested : List ℕ) → Answer Header
judged_lists m sources targets starts tested =
    let sets = forward_sets m.initial m.locations sources targets starts in
    let unreached = refused_in m.version m.timers m.initial sources targets sets in
    let unstarted = lowest (tests_at sources tested sets) (length sources) in
    unless (leb m.locations unreached) 9 unreached (
    unless (leb (length sources) unstarted) 10 unstarted (
    returned m))
