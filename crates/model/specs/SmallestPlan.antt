-- The smallest number of timers in any plan that gives meeting families different numbers (document 02, P1). A plan gives each family of a list a
-- number; how one is found is not said here. The same in the words of paths is `SharingPlan`, in the crate sharing_plans.
use Rattle.std.specs.Prelude.{Bool, true, not, ◌&&◌, List, [], ◌∷◌, map, ℕ, length}
use Rattle.lists.specs.Lists.{memb, any_of, lowest, gather}
use Rattle.model.specs.Family.{Family}
use Rattle.model.specs.FirstFit.{Placed, held}

-- all ways to give the families numbers below k
unfoldable pub placings : (k : ℕ) → List Family → List (List Placed)
placings k [] = [] ∷ []
placings k (f ∷ fs) = gather (λ n. map (λ ps. record { family = f; number = n } ∷ ps) (placings k fs)) k

-- families that meet have different numbers
unfoldable pub meeting_differ : List Placed → Bool
meeting_differ [] = true
meeting_differ (g ∷ ps) = not (memb g.number (held g.family ps)) && meeting_differ ps

-- there is a plan with k timers
unfoldable pub planned : (k : ℕ) → List Family → Bool
planned k fs = any_of meeting_differ (placings k fs)

-- the smallest number of timers in any plan; as many timers as families are always enough
unfoldable pub fewest : List Family → ℕ
fewest fs = lowest (λ k. planned k fs) (length fs)
