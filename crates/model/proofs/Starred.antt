-- The cases that document 01 marks ★ hold, those that go wrong unnoticed, and which charts are searched. The definitions compute the replies that the
-- documents give.
use mathlib.Core.Path.{◌≡◌, refl}
use mathlib.Core.Bool.{true, false}
use mathlib.Core.List.{◌++◌, map}
use Rattle.model.specs.Floor.{searched}
use Rattle.model.specs.Cases.{lone, ask, Case, starred, unnoticed}
use Rattle.model.proofs.Computing.{cases_compute}

pub starred_hold : map (λ (x : Case). ask x.question) (starred ++ unnoticed) ≡ map (λ (x : Case). x.reply) (starred ++ unnoticed)
unfolding cases_compute
starred_hold = refl

-- 20 families are searched for, 21 are not
pub searched_up_to_20 : (searched (lone 20) ≡ true) × (searched (lone 21) ≡ false)
unfolding cases_compute
searched_up_to_20 = (refl, refl)
